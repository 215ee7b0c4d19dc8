use Rattle.cap_init.specs.Walking.{IsWalk, steps_left}
use Rattle.cap_init.proofs.walk.order.Given as goal

abbrev pub invariant-loop-frame : goal.invariant-loop-frame
invariant-loop-frame l = IsWalk l.deps l.group.from l.group.to l.begun.items l.path.items l.ended.items

abbrev pub decreases-loop-frame : goal.decreases-loop-frame
decreases-loop-frame l = steps_left l.deps l.group.from l.begun.items l.path.items
