-- The taken places in ascending order.
use Rattle.std.proofs.Common.{◌≡◌, ℕ, ◌+◌, ◌<◌, ◌≤◌, ◌↔◌, ⊎_elim, List, [], ◌∷◌, ◌++◌, length, get_or, sym, ap, subst, ◌∙◌, arith}
use Rattle.std.specs.Prelude.{slice_index, Contains}
use Rattle.std.specs.List.Sorted.{IsStrictlyIncreasing}
use Rattle.std.proofs.lemmas.Bool.{cases_lt}
use Rattle.std.proofs.lemmas.List.{length-append, get_or_append_left, get_or_default}
use Rattle.std.proofs.Math.Seq.{get_or-append_seam}
use Rattle.std.proofs.lemmas.List.Elements.{Contains-append_left, Contains-push, Contains-push_cases, Contains-get_or}
use Rattle.cap_reach.specs.Work.{AreTaken}
use Rattle.cap_reach.proofs.Hops.{inside}

-- what was read at a place
pub read : (xs : List ℕ) (i x : ℕ) → i < length xs → x ≡ get_or xs i x → slice_index xs i ≡ x
read xs i x lt is = get_or_default xs i 0 x lt ∙ sym is

pub rises_more : (xs : List ℕ) (x : ℕ) → IsStrictlyIncreasing xs → ((k : ℕ) → Contains xs k → k < x) → IsStrictlyIncreasing (xs ++ x ∷ [])
rises_more xs x up below k lt =
    let n = length-append xs (x ∷ []) in
    ⊎_elim
    (λ (near : k + 1 < length xs).
    let a = get_or_append_left xs (x ∷ []) 0 k (omega arith) in
    let b = get_or_append_left xs (x ∷ []) 0 (k + 1) near in
    let c = up k near in
    omega arith)
    (λ (le : length xs ≤ k + 1).
    let a = get_or_append_left xs (x ∷ []) 0 k (omega arith) in
    let at : length xs ≡ k + 1 = omega arith in
    let b : slice_index (xs ++ x ∷ []) (k + 1) ≡ x = ap (slice_index (xs ++ x ∷ [])) (sym at) ∙ get_or-append_seam xs x [] 0 in
    let c = below (slice_index xs k) (Contains-get_or xs k 0 (omega arith)) in
    omega arith)
    (cases_lt (k + 1) (length xs))

pub takes_next : (next xs ys : List ℕ) (i : ℕ) → AreTaken next i xs → 0 < slice_index next i → ys ≡ xs ++ i ∷ [] → AreTaken next (i + 1) ys
takes_next next xs ys i are here is =
    subst (AreTaken next (i + 1)) (sym is) (record {
      ascending = rises_more xs i are.ascending (λ k has. ((are.each k).0 has).0);
      each = λ k. (
        λ has.
            ⊎_elim
            (λ (old : Contains xs k). let p = (are.each k).0 old in let lt = p.0 in (omega arith, p.1))
            (λ (same : i ≡ k). let e = ap (slice_index next) same in (omega arith, omega arith))
            (Contains-push_cases xs i k has),
        λ p.
            let lt = p.0 in
            ⊎_elim
            (λ (near : k < i). Contains-append_left xs (i ∷ []) k ((are.each k).1 (near, p.1)))
            (λ (le : i ≤ k). let same : i ≡ k = omega arith in subst (Contains (xs ++ i ∷ [])) same (Contains-push xs i))
            (cases_lt k i),
      );
    })

pub passes_next : (next xs : List ℕ) (i : ℕ) → AreTaken next i xs → slice_index next i ≡ 0 → AreTaken next (i + 1) xs
passes_next next xs i are free = record {
  ascending = are.ascending;
  each = λ k. (
    λ has. let p = (are.each k).0 has in let lt = p.0 in (omega arith, p.1),
    λ p.
        let lt = p.0 in
        let some = p.1 in
        ⊎_elim
        (λ (near : k < i). (are.each k).1 (near, p.1))
        (λ (le : i ≤ k). let same : i ≡ k = omega arith in let e = ap (slice_index next) same in absurd (omega arith))
        (cases_lt k i),
  );
}

pub all_taken : (next xs : List ℕ) (end : ℕ) → AreTaken next end xs → length next ≤ end → (k : ℕ) → Contains xs k ↔ (0 < slice_index next k)
all_taken next xs end are le k = (
  λ has. ((are.each k).0 has).1,
  λ here. let lt = inside next k here in (are.each k).1 (omega arith, here),
)
