use Rattle.std.proofs.Common.{◌≡◌, ◌-◌, take, get_or}
use Rattle.cap_layout.specs.Cuts.{ascending}
use Rattle.cap_layout.proofs.MarkSteps.{EndsIn}
use Rattle.cap_layout.proofs.marks.distinct.Given as goal

-- the marks so far, which end in the number before
abbrev pub invariant-loop-i : goal.invariant-loop-i
invariant-loop-i l =
    (l.marks.items ≡ ascending (take l.i l.sorted)) × EndsIn l.marks.items (get_or l.sorted (l.i - 1) 0)
