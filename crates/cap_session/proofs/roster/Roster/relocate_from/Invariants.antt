use Rattle.std.proofs.Common.{◌≡◌, length}
use Rattle.cap_session.specs.Binding.{pairs_for, objects_in}
use Rattle.cap_session.proofs.PartWay.{PartWay}
use Rattle.cap_session.proofs.roster.Roster.relocate_from.Given as goal

abbrev pub invariant-loop-i : goal.invariant-loop-i
invariant-loop-i l = record {
  end_is : l.i-end ≡ length l.fn.self.objects;
  part : PartWay (pairs_for l.look_up.rule l.fn.self.dir (objects_in l.fn.self) l.look_up.start_count l.look_up.openings.items) l.from l.i l.i-end l.fn.self l.self;
}
