use Rattle.std.proofs.Common.{◌≡◌, drop, map}
use Rattle.std.specs.List.{enumerate_from}
use Rattle.cap_table.specs.Lists.{slot_want, slot_wants}
use Rattle.cap_table.specs.Entered.{entered}
use Rattle.cap_table.proofs.entering.enter_slots.Given as goal

abbrev pub invariant-loop-k : goal.invariant-loop-k
invariant-loop-k l =
    entered l.numbers l.layout l.lists (map (slot_want l.layout) (enumerate_from l.k (drop l.k l.target-items)))
    ≡ entered l.numbers l.layout l.fn.lists (slot_wants l.plan l.layout)
