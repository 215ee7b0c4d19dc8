-- What the tables of a memory give for all its words.
use Rattle.std.proofs.Common.{◌≡◌, ℕ, suc, zero, ◌+◌, ◌-◌, ◌*◌, ◌<◌, ◌≤◌, true, List, [], ◌∷◌, All, AllPairs, refl, ap, sym, ◌∙◌, arith, ⊎_elim, subst}
use Rattle.std.specs.Prelude.{◌≢◌}
use Rattle.std.proofs.lemmas.List.Kept.{AllPairs-cons}
use Rattle.std.proofs.lemmas.Bool.Decides.{eqb_tells}
use Rattle.cap_own.specs.Cap.{Cap}
use Rattle.cap_mem.specs.Tagged.{TaggedWord, word_in}
use Rattle.cap_mem.specs.IsMemory.{IsHeld, IsMemory}
use Rattle.cap_mem.specs.Held.{cap_in, words_of}
use Rattle.cap_mem.specs.Chain.{has, NotIn, IsApart}
use Rattle.cap_mem.specs.declared.memory.Memory.TheInside.{Inside}
use Rattle.cap_mem.specs.MemoryFields.{memory_of, owners_of, caps_of, notes_of, AreTables}
use Rattle.cap_mem.proofs.Chains.{Yes, No}
use Rattle.cap_mem.proofs.Granules.{In, Out, lt_tells, eq_yes, word, words_head}
use Rattle.cap_mem.proofs.Entered.{OwnedBy}

all_none : (P : TaggedWord → Type 0) → All P []
all_none P k d low = absurd (omega (arith, low))

all_cons : (P : TaggedWord → Type 0) (w : TaggedWord) (ws : List TaggedWord) → P w → All P ws → All P (w ∷ ws)
all_cons P w ws p h zero d low = p
all_cons P w ws p h (suc k) d low = h k d (omega (arith, low))

pairs_none : (R : TaggedWord → TaggedWord → Type 0) → AllPairs R []
pairs_none R i j d order low = absurd (omega (arith, low))

-- a fact of each granule of the chain is a fact of each word
all_words : (P : TaggedWord → Type 0) (base size : ℕ) (caps : ℕ → Cap) (nt : ℕ → ℕ) (xs : List ℕ) → ((g : ℕ) → g < size → has g xs ≡ true → P (word base caps nt g))
    → All P (words_of base size caps nt xs)
all_words P base size caps nt [] h = all_none P
all_words P base size caps nt (x ∷ xs) h = ⊎_elim
    (λ (i : In x size). rw i.0 (all_cons P (word base caps nt x) (words_of base size caps nt xs) (h x i.1 (first x xs)) (all_words P base size caps nt xs (λ g low s. h g low (later g x xs s)))))
    (λ (o : Out x size). rw o.0 (all_words P base size caps nt xs (λ g low s. h g low (later g x xs s))))
    (lt_tells x size)
  where
    first : (x : ℕ) (xs : List ℕ) → has x (x ∷ xs) ≡ true
    first x xs = rw (eq_yes x x refl) refl

    later : (g x : ℕ) (xs : List ℕ) → has g xs ≡ true → has g (x ∷ xs) ≡ true
    later g x xs s = ⊎_elim (λ (q : Yes x g). rw q.0 refl) (λ (q : No x g). rw q.0 s) (eqb_tells x g)

not_in : (x g : ℕ) (xs : List ℕ) → NotIn x xs → has g xs ≡ true → x ≢ g
not_in x g [] out h = absurd (cc)
not_in x g (y ∷ ys) out h = ⊎_elim
    (λ (q : Yes y g). λ e. out.0 (e ∙ sym q.1))
    (λ (q : No y g). not_in x g ys out.1 (rw q.0 at h))
    (eqb_tells y g)

-- no two words stand at one granule
words_distinct : (base size : ℕ) (caps : ℕ → Cap) (nt : ℕ → ℕ) (xs : List ℕ) → IsApart xs → AllPairs (λ v w. v.granule ≢ w.granule) (words_of base size caps nt xs)
words_distinct base size caps nt [] h = pairs_none (λ v w. v.granule ≢ w.granule)
words_distinct base size caps nt (x ∷ xs) h = ⊎_elim
    (λ (i : In x size). rw i.0 (AllPairs-cons (λ v w. v.granule ≢ w.granule) (word base caps nt x) (words_of base size caps nt xs)
    (all_words (λ w. base + 16 * x ≢ w.granule) base size caps nt xs (λ g low s. λ e. not_in x g xs h.0 s (omega (arith, e))))
    (words_distinct base size caps nt xs h.1)))
    (λ (o : Out x size). rw o.0 (words_distinct base size caps nt xs h.1))
    (lt_tells x size)

-- the owners ascend
owners_above : (base size o p : ℕ) (caps : ℕ → Cap) (nt : ℕ → ℕ) (xs : List ℕ) → OwnedBy size caps p xs → o ≤ p → All (λ w. o ≤ w.cap.owner) (words_of base size caps nt xs)
owners_above base size o p caps nt [] h le = all_none (λ w. o ≤ w.cap.owner)
owners_above base size o p caps nt (x ∷ xs) h le = ⊎_elim
    (λ (i : In x size). let k = rw i.0 at h in rw i.0 (all_cons (λ w. o ≤ w.cap.owner) (word base caps nt x) (words_of base size caps nt xs) (omega (arith, k.0, le)) (owners_above base size o p caps nt xs k.1 le)))
    (λ (q : Out x size). let k = rw q.0 at h in rw q.0 (owners_above base size o (p + 1) caps nt xs k.1 (omega (arith, le))))
    (lt_tells x size)

words_ascend : (base size p : ℕ) (caps : ℕ → Cap) (nt : ℕ → ℕ) (xs : List ℕ) → OwnedBy size caps p xs → AllPairs (λ v w. v.cap.owner ≤ w.cap.owner) (words_of base size caps nt xs)
words_ascend base size p caps nt [] h = pairs_none (λ v w. v.cap.owner ≤ w.cap.owner)
words_ascend base size p caps nt (x ∷ xs) h = ⊎_elim
    (λ (i : In x size). let k = rw i.0 at h in rw i.0 (AllPairs-cons (λ v w. v.cap.owner ≤ w.cap.owner) (word base caps nt x) (words_of base size caps nt xs)
    (owners_above base size (caps x).owner p caps nt xs k.1 (omega (arith, k.0))) (words_ascend base size p caps nt xs k.1)))
    (λ (q : Out x size). let k = rw q.0 at h in rw q.0 (words_ascend base size (p + 1) caps nt xs k.1))
    (lt_tells x size)

held : (m : Inside) → AreTables m → (g : ℕ) → g < m.links.size → has g m.links.chain ≡ true → IsHeld (memory_of m) (word m.base (caps_of m) (notes_of m) g)
held m i g low s =
    let h = i.caps g low s in
    let place : m.base + 16 * g - m.base ≡ 16 * g = omega arith in
    record {
      aligned = omega (arith, i.aligned);
      from = omega arith;
      to = omega (arith, i.bytes_len, low);
      owner = i.owners_low g;
      bytes_are = ap (word_in m.bytes.items) place ∙ h.bytes_are;
      decodes = ap (λ at. cap_in m.bytes.items at (owners_of m g)) place;
      root = h.root;
      granted = h.granted;
    }

pub IsMemory-made : (m : Inside) → AreTables m → IsMemory (memory_of m)
IsMemory-made m i = record {
  aligned = i.aligned;
  end = omega (arith, i.end, i.bytes_len);
  held = all_words (IsHeld (memory_of m)) m.base m.links.size (caps_of m) (notes_of m) m.links.chain (held m i);
  distinct = words_distinct m.base m.links.size (caps_of m) (notes_of m) m.links.chain i.apart;
  ascending = subst (λ (ws : List TaggedWord). AllPairs (λ v w. v.cap.owner ≤ w.cap.owner) ws)
      (sym (ap (words_of m.base m.links.size (caps_of m) (notes_of m)) i.starts ∙ words_head m.base m.links.size (caps_of m) (notes_of m) i.rest))
      (words_ascend m.base m.links.size 0 (caps_of m) (notes_of m) i.rest i.owned);
}
