use Rattle.std.proofs.Common.{◌≡◌, ℕ, ◌≤◌, Some, length, map, take}
use Rattle.cap_session.specs.Closing.{Behind, Goes, needed_by}
use Rattle.cap_session.specs.Roster.{IsRoster, answerer_in}
use Rattle.cap_session.proofs.roster.Roster.enter_deps.Given as goal

-- the names so far are answered by the objects of the list
abbrev pub invariant-loop-k : goal.invariant-loop-k
invariant-loop-k g l = record {
  goes : Goes (g.F.Files.told l.fn.files) l.fn.self l.self;
  behind : Behind l.fn.self l.self;
  sound : IsRoster l.self;
  deps : l.self.deps ≡ l.fn.self.deps;
  answered : map (answerer_in l.self) (take l.k (needed_by l.fn.self l.i)) ≡ map Some l.of.items;
  told : g.F.Files.told l.files ≡ g.F.Files.told l.fn.files;
  writing : g.F.Files.writing l.files ≡ g.F.Files.writing l.fn.files;
  write_faults : g.F.Files.write_faults l.files ≡ g.F.Files.write_faults l.fn.files;
  reads : g.F.Files.read_faults l.files ≡ g.F.Files.read_faults l.fn.files;
}
