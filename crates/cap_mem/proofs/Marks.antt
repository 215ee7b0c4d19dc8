-- The marks of new links.
use Rattle.std.proofs.Common.{◌≡◌, ℕ, suc, zero, ◌+◌, ◌-◌, ◌<◌, ◌≤◌, true, List, length, refl, ◌∙◌, arith, ⊎_elim, set, slice_index}
use Rattle.std.specs.List.{range_with_len}
use Rattle.std.proofs.lemmas.Bool.Decides.{eqb_tells}
use Rattle.std.proofs.lemmas.List.{get_or-set_same, get_or-set_other}
use Rattle.cap_mem.specs.Chain.{LinkedFrom, NotIn, IsApart, AllBelow, EndsAt, IsChain, has, AreMarked}
use Rattle.cap_mem.proofs.Chains.{Yes, No}

pub marked_more : (ns ps : List ℕ) (size n : ℕ) → size + n + 1 < length ns → size + n + 1 < length ps → AreMarked ns ps size n → AreMarked (set ns (size + n) (size + n + 1)) (set ps (size + n + 1) (size + n)) size (n + 1)
marked_more ns ps size n nl pl before k low = ⊎_elim
    (λ (same : Yes k n). rw same.1 (get_or-set_same ns (size + n) (size + n + 1) 0 (omega arith), get_or-set_same ps (size + n + 1) (size + n) 0 (omega arith)))
    (λ (other : No k n).
    let b = before k (omega (arith, other.1)) in (
      get_or-set_other ns (size + n) (size + k) (size + n + 1) 0 (λ e. other.1 (omega (arith, e))) ∙ b.0,
      get_or-set_other ps (size + n + 1) (size + k + 1) (size + n) 0 (λ e. other.1 (omega (arith, e))) ∙ b.1,
    ))
    (eqb_tells k n)

linked_marks : (ns ps : List ℕ) (size n p : ℕ) → ((k : ℕ) → p ≤ k → k < p + n → (slice_index ns k ≡ k + 1) × (slice_index ps (k + 1) ≡ k))
    → LinkedFrom (λ i. slice_index ns i) (λ i. slice_index ps i) p (range_with_len (p + 1) n)
linked_marks ns ps size zero p h = tt
linked_marks ns ps size (suc n) p h = (
  record { ahead = (h p (omega arith) (omega arith)).0; back = (h p (omega arith) (omega arith)).1 },
  linked_marks ns ps size n (p + 1) (λ k from to. h k (omega (arith, from)) (omega (arith, to))),
)

pub notin_range : (x a n : ℕ) → x < a → NotIn x (range_with_len a n)
notin_range x a zero h = tt
notin_range x a (suc n) h = ((λ e. absurd (omega (arith, e, h))), notin_range x (a + 1) n (omega (arith, h)))

pub apart_range : (a n : ℕ) → IsApart (range_with_len a n)
apart_range a zero = tt
apart_range a (suc n) = (notin_range a (a + 1) n (omega arith), apart_range (a + 1) n)

below_range : (m a n : ℕ) → a + n ≤ m → AllBelow m (range_with_len a n)
below_range m a zero h = tt
below_range m a (suc n) h = (omega (arith, h), below_range m (a + 1) n (omega (arith, h)))

ends_range : (z p n : ℕ) → z ≡ p + n → EndsAt z p (range_with_len (p + 1) n)
ends_range z p zero h = omega (arith, h)
ends_range z p (suc n) h = ends_range z (p + 1) n (omega (arith, h))

pub has_range : (x a n : ℕ) → a ≤ x → x < a + n → has x (range_with_len a n) ≡ true
has_range x a zero from to = absurd (omega (arith, from, to))
has_range x a (suc n) from to = ⊎_elim
    (λ (same : Yes a x). rw same.0 refl)
    (λ (other : No a x). rw other.0 (has_range x (a + 1) n (omega (arith, from, other.1)) (omega (arith, to))))
    (eqb_tells a x)

pub marks_chain : (ns ps : List ℕ) (size n total : ℕ) → total ≡ size + n + 1 → AreMarked ns ps size n → IsChain (λ i. slice_index ns i) (λ i. slice_index ps i) total size (size + n) (range_with_len (size + 1) n)
marks_chain ns ps size n total is h = record {
  linked = linked_marks ns ps size n size (λ k from to.
      let j : ℕ = k - size in
      let e : size + j ≡ k = omega (arith, from) in
      rw e at (h j (omega (arith, from, to))));
  apart = (notin_range size (size + 1) n (omega arith), apart_range (size + 1) n);
  within = (omega (arith, is), below_range total (size + 1) n (omega (arith, is)));
  ends = ends_range (size + n) size n refl;
}
