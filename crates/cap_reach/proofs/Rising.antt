-- Ascending numbers, and where those up to a bound end.
use Rattle.std.proofs.Common.{ℕ, ◌+◌, ◌<◌, ◌≤◌, List, length, arith}
use Rattle.std.specs.Prelude.{slice_index}
use Rattle.std.specs.List.Sorted.{IsStrictlyIncreasing}
use Rattle.cap_image.proofs.Rising.{rises}

-- where one ends above a bound, all behind it do
pub ends_above : (xs : List ℕ) (at top : ℕ) → IsStrictlyIncreasing xs → top < slice_index xs at + 16 → (k : ℕ) → at ≤ k → k < length xs → slice_index xs k + 16 ≤ top → ⊥
ends_above xs at top up above k le lt within =
    let h = rises xs 0 up at k 0 le lt in
    omega arith
