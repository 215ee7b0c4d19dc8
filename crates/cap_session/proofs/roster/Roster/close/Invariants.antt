use Rattle.std.proofs.Common.{◌≡◌, ℕ, ◌≤◌, length}
use Rattle.cap_session.specs.Closing.{Behind, Goes}
use Rattle.cap_session.specs.Roster.{IsRoster}
use Rattle.cap_session.proofs.roster.Roster.close.Given as goal

-- the objects so far have their lists
abbrev pub invariant-loop-i : goal.invariant-loop-i
invariant-loop-i g l = record {
  goes : Goes (g.F.Files.told l.fn.files) l.fn.self l.self;
  behind : Behind l.fn.self l.self;
  sound : IsRoster l.self;
  count : length l.self.deps ≡ l.i;
  told : g.F.Files.told l.files ≡ g.F.Files.told l.fn.files;
  writing : g.F.Files.writing l.files ≡ g.F.Files.writing l.fn.files;
  write_faults : g.F.Files.write_faults l.files ≡ g.F.Files.write_faults l.fn.files;
  reads : g.F.Files.read_faults l.files ≡ g.F.Files.read_faults l.fn.files;
}
