-- A memory has no more words than granules.
use Rattle.std.proofs.Common.{◌≡◌, ℕ, suc, ◌+◌, ◌-◌, ◌/◌, ◌%◌, ◌<◌, ◌≤◌, true, false, List, [], ◌∷◌, length, map, arith, nat_eq, ⊎_elim}
use Rattle.std.specs.Prelude.{◌≢◌, All}
use Rattle.std.specs.List.{list_any, AllByRecursion, IsDistinct}
use Rattle.std.proofs.lemmas.Bool.Decides.{eqb_tells}
use Rattle.std.proofs.lemmas.List.{length-map}
use Rattle.std.proofs.lemmas.Map.Steps.{length-le_from_distinct_below}
use Rattle.cap_mem.specs.IsMemory.{IsMemory}
use Rattle.cap_mem.specs.Tagged.{TaggedMemory, TaggedWord}
use Rattle.cap_image.proofs.WordOrder.{Distinct, rest_apart, first_apart, Yes, No, eq_no}

-- a whole granule from a base on, within so many bytes
record Stands (base len : ℕ) (w : TaggedWord) : Type 0 where
  aligned : w.granule % 16 ≡ 0
  from : base ≤ w.granule
  to : w.granule + 16 ≤ base + len

-- which granule it is
abbrev number : ℕ → TaggedWord → ℕ
number base w = (w.granule - base) / 16

differ : (base len : ℕ) (v w : TaggedWord) → Stands base len v → Stands base len w → v.granule ≢ w.granule → number base v ≡ number base w → ⊥
differ base len v w sv sw ne e = ne (omega (arith, sv.aligned, sw.aligned, sv.from, sw.from, e))

row : (base len : ℕ) (v : TaggedWord) (ws : List TaggedWord) → Stands base len v → All (Stands base len) ws → All (λ w. v.granule ≢ w.granule) ws → AllByRecursion (λ y. nat_eq (number base v) y ≡ false) (map (number base) ws)
row base len v [] sv h apart = tt
row base len v (w ∷ ws) sv h apart = (
  eq_no (number base v) (number base w) (differ base len v w sv (h 0 w (omega arith)) (apart 0 w (omega arith))),
  row base len v ws sv (λ k d l. h (suc k) d (omega (arith, l))) (λ k d l. apart (suc k) d (omega (arith, l))),
)

distinct : (base len : ℕ) (ws : List TaggedWord) → All (Stands base len) ws → Distinct ws → IsDistinct nat_eq (map (number base) ws)
unfolding IsDistinct
distinct base len [] h apart = tt
distinct base len (w ∷ ws) h apart = (
  row base len w ws (h 0 w (omega arith)) (λ k d l. h (suc k) d (omega (arith, l))) (first_apart w ws apart),
  distinct base len ws (λ k d l. h (suc k) d (omega (arith, l))) (rest_apart w ws apart),
)

low : (base len : ℕ) (ws : List TaggedWord) → All (Stands base len) ws → (q : ℕ) → list_any (nat_eq q) (map (number base) ws) ≡ true → q < len / 16
low base len [] h q e = absurd (cc)
low base len (w ∷ ws) h q e = ⊎_elim
    (λ (y : Yes q (number base w)). let here : Stands base len w = h 0 w (omega arith) in omega (arith, y.1, here.from, here.to))
    (λ (n : No q (number base w)). low base len ws (λ k d l. h (suc k) d (omega (arith, l))) q (rw n.0 at e))
    (eqb_tells q (number base w))

stands : (m : TaggedMemory) → IsMemory m → All (Stands m.base (length m.bytes)) m.words
stands m is = λ k d l. record { aligned = (is.held k d l).aligned; from = (is.held k d l).from; to = (is.held k d l).to }

pub few_words : (m : TaggedMemory) → IsMemory m → length m.words ≤ length m.bytes / 16
few_words m is =
    let count : length (map (number m.base) m.words) ≤ length m.bytes / 16 =
    length-le_from_distinct_below (map (number m.base) m.words) (length m.bytes / 16) (distinct m.base (length m.bytes) m.words (stands m is) is.distinct) (low m.base (length m.bytes) m.words (stands m is)) in
    omega (arith, count, length-map m.words (number m.base))
