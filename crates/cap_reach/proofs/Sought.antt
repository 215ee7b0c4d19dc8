-- A granule that isn't where it would stand is not listed.
use Rattle.std.proofs.Common.{◌≡◌, ℕ, ◌<◌, ◌≤◌, ◌↔◌, ⊎_elim, List, length, sym, ap, ◌∙◌, arith}
use Rattle.std.specs.Prelude.{Contains, slice_index}
use Rattle.std.specs.List.Sorted.{IsStrictlyIncreasing}
use Rattle.std.proofs.lemmas.Bool.{cases_lt}
use Rattle.std.proofs.lemmas.List.{get_or_default}
use Rattle.std.proofs.lemmas.List.Kept.{AllPairs-from_increasing}

pub not_listed : (granules : List ℕ) (slot i : ℕ) → IsStrictlyIncreasing granules → ((k : ℕ) → k < length granules → (slot ≤ slice_index granules k) ↔ (i ≤ k)) → (i < length granules → slice_index granules i ≡ slot → ⊥) → Contains granules slot → ⊥
not_listed granules slot i up each other has =
    let at : slice_index granules has.0 ≡ slot = sym (get_or_default granules has.0 slot 0 has.1) ∙ has.2 in
    let lt = has.1 in
    let le = (each has.0 has.1).0 (omega arith) in
    let within : i < length granules = omega arith in
    let not_below = (each i within).1 (omega arith) in
    ⊎_elim
    (λ (less : i < has.0). let h = AllPairs-from_increasing granules up i has.0 0 less has.1 in absurd (omega arith))
    (λ (back : has.0 ≤ i). let same : i ≡ has.0 = omega arith in other within (ap (slice_index granules) same ∙ at))
    (cases_lt i has.0)
