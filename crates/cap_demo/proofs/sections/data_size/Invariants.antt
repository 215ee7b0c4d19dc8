use Rattle.std.proofs.Common.{◌≡◌, ◌+◌, ◌*◌, ◌≤◌, take}
use Rattle.std.specs.Prelude.{sum}
use Rattle.cap_demo.proofs.sections.data_size.Given as goal

abbrev pub invariant-loop-datum : goal.invariant-loop-datum
invariant-loop-datum l =
    (l.size ≡ 1040 + sum (take l.datum-index l.sizes)) × (l.size ≤ 1040 + 9000 * l.datum-index)
