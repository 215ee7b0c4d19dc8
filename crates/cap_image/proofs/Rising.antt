-- Ascending numbers, and which of them are below an address.
use Rattle.std.proofs.Common.{◌≡◌, ℕ, ◌+◌, ◌<◌, ◌≤◌, ◌↔◌, true, false, ⊎_elim, List, length, ltb, arith}
use Rattle.std.specs.Prelude.{slice_index}
use Rattle.std.specs.List.Sorted.{IsStrictlyIncreasing, IsNonDecreasingBy, IsPartitionPoint}
use Rattle.std.proofs.lemmas.Bool.{cases_lt}
use Rattle.std.proofs.lemmas.Bool.Decides.{nat_tests}
use Rattle.std.proofs.lemmas.List.{get_or_default}
use Rattle.std.proofs.lemmas.List.Sorted.{IsNonDecreasingBy-from_all_adjacent}

pub rises : (xs : List ℕ) (more : ℕ) → IsStrictlyIncreasing xs → IsNonDecreasingBy (λ y. y + more) xs
rises xs more up =
    IsNonDecreasingBy-from_all_adjacent (λ y. y + more) xs
    (λ k d lt. let e = get_or_default xs k d 0 (omega arith) in let f = get_or_default xs (k + 1) d 0 lt in let h = up k lt in omega arith)

pub from_here : (xs : List ℕ) (base i : ℕ) → IsPartitionPoint (λ y. ltb (y + 0) base ≡ true) (λ y. ltb (y + 0) base ≡ false) xs i → (k : ℕ) → k < length xs → (base ≤ slice_index xs k) ↔ (i ≤ k)
from_here xs base i point k lt =
    ⊎_elim
    (λ (below : k < i). let h = point.0 k 0 (omega arith) below in (λ le. absurd (grind (arith, nat_tests)), λ le. absurd (omega arith)))
    (λ (le : i ≤ k). let h = point.1 k 0 le lt in (λ _. le, λ _. grind (arith, nat_tests)))
    (cases_lt k i)
