use Rattle.std.proofs.Common.{◌≡◌, ℕ}
use Rattle.cap_layout.specs.CommonMap.{common_in}
use Rattle.cap_layout.proofs.PointCommons.{common_from}
use Rattle.cap_layout.proofs.common_map.CommonMap.of.Given as goal

abbrev pub invariant-loop-number : goal.invariant-loop-number
invariant-loop-number l =
    (file symbol : ℕ) → common_in l.commons file symbol ≡ common_from l.pieces.all l.number file symbol
