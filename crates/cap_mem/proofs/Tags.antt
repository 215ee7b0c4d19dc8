-- The bits of a chain, and the first of the tagged granules.
use Rattle.std.proofs.Common.{◌≡◌, ℕ, suc, zero, ◌+◌, ◌*◌, ◌/◌, ◌%◌, ◌<◌, ◌≤◌, Bool, true, false, not, ◌&&◌, ◌||◌, List, [], ◌∷◌, refl, ap, sym, ◌∙◌, arith, nat_eq, ⊎_elim, inl, inr, subst, replicate, slice_index, min}
use Rattle.std.specs.Prelude.{◌≢◌, ◌⊎◌, filter, find, map, nat_le, Some, None, is_some, fold}
use Rattle.std.specs.List.{range_with_len, reduce}
use Rattle.std.specs.Int.{bit_at}
use Rattle.std.proofs.lemmas.Nat.Bits.{bit_at-zero}
use Rattle.std.proofs.lemmas.Bool.Decides.{eqb_tells, leb_tells}
use Rattle.cap_mem.specs.Tagged.{TaggedWord, stands_at, is_tagged, first_tagged, IsFirstTagged, NoneTagged}
use Rattle.cap_mem.specs.Chain.{has, without, with_before}
use Rattle.cap_mem.specs.Bit.{bit_in, IsFirstFrom, NoneFrom}
use Rattle.cap_mem.specs.declared.memory.Memory.TheInside.{Inside}
use Rattle.cap_mem.specs.MemoryFields.{memory_of, caps_of, notes_of, AreTables}
use Rattle.cap_mem.proofs.Chains.{Yes, No}
use Rattle.cap_mem.proofs.Granules.{In, Out, lt_tells, bool_cases, eq_yes, eq_no, tagged_is, tagged_from}

-- where no bit stands, nothing is tagged
untagged : (m : Inside) → AreTables m → (a : ℕ) → ((g : ℕ) → a ≡ m.base + 16 * g → bit_in m.tags.items g ≡ false) → is_tagged (memory_of m) a ≡ false
untagged m i a h = bool_cases (is_tagged (memory_of m) a) (λ t.
    let f = tagged_from m.base m.links.size (caps_of m) (notes_of m) a m.links.chain t in
    let low = h f.g f.is in
    let yes = i.tagged f.g f.below ∙ f.stands in
    absurd (cc))

pub tagged_some : (m : Inside) → AreTables m → (ws : List ℕ) (start from g : ℕ) → ws ≡ m.tags.items → IsFirstFrom ws start g
    → from ≤ m.base + 16 * start → ((k : ℕ) → from ≤ m.base + 16 * k → start ≤ k)
    → IsFirstTagged (memory_of m) from (m.base + 16 * g)
tagged_some m i ws start from g e f reaches least =
    let one : bit_in m.tags.items g ≡ true = subst (λ (xs : List ℕ). bit_in xs g ≡ true) e f.one in
    let below : g < m.links.size = ⊎_elim
    (λ (q : In g m.links.size). q.1)
    (λ (q : Out g m.links.size). let low = i.none_past g q.1 in absurd (cc))
    (lt_tells g m.links.size) in
    let order : start ≤ g = f.order in
    record {
      tagged = tagged_is m g below ∙ sym (i.tagged g below) ∙ one;
      order = omega (arith, reaches, order);
      least = λ a lo hi. untagged m i a (λ k is. subst (λ (xs : List ℕ). bit_in xs k ≡ false) e (f.before k (least k (omega (arith, lo, is))) (omega (arith, hi, is))));
    }

pub tagged_none : (m : Inside) → AreTables m → (ws : List ℕ) (start from : ℕ) → ws ≡ m.tags.items → NoneFrom ws start
    → ((k : ℕ) → from ≤ m.base + 16 * k → start ≤ k) → NoneTagged (memory_of m) from
tagged_none m i ws start from e f least a lo = untagged m i a (λ k is. subst (λ (xs : List ℕ). bit_in xs k ≡ false) e (f k (least k (omega (arith, lo, is)))))

-- whether a granule is among the words
abbrev any_at : ℕ → List TaggedWord → Bool
any_at a ws = is_some (find (stands_at a) ws)

any_later : (a : ℕ) (w : TaggedWord) (ws : List TaggedWord) → any_at a (w ∷ ws) ≡ false → any_at a ws ≡ false
any_later a w ws h = ⊎_elim
    (λ (q : Yes w.granule a). let no = rw q.0 at h in absurd (cc))
    (λ (q : No w.granule a). rw q.0 at h)
    (eqb_tells w.granule a)

-- no word stands below r, of those that are not below from
abbrev NoneBetween : ℕ → ℕ → List TaggedWord → Type 0
NoneBetween from r ws = (a : ℕ) → from ≤ a → a < r → any_at a ws ≡ false

reaches_r : (from r : ℕ) (w : TaggedWord) (ws : List TaggedWord) → NoneBetween from r (w ∷ ws) → from ≤ w.granule → r ≤ w.granule
reaches_r from r w ws none lo = ⊎_elim
    (λ (i : In w.granule r).
    let no = none w.granule lo i.1 in
    let off = rw (eq_yes w.granule w.granule refl) at no in
    absurd (cc))
    (λ (o : Out w.granule r). o.1)
    (lt_tells w.granule r)

abbrev rest_from : ℕ → List TaggedWord → List ℕ
rest_from from ws = filter (λ g. nat_le from g) (map (λ w. w.granule) ws)

abbrev Le : ℕ → ℕ → Type 0
Le a b = (nat_le a b ≡ true) × (a ≤ b)

abbrev Gt : ℕ → ℕ → Type 0
Gt a b = (nat_le a b ≡ false) × (b < a)

fold_least : (ws : List TaggedWord) (acc from r : ℕ) → from ≤ r → r ≤ acc → (acc ≡ r) ⊎ (any_at r ws ≡ true) → NoneBetween from r ws
    → fold min acc (rest_from from ws) ≡ r
fold_least [] acc from r lo le (inl e) none = e
fold_least [] acc from r lo le (inr t) none = absurd (cc)
fold_least (w ∷ ws) acc from r lo le some none = ⊎_elim
    (λ (q : Le from w.granule).
    let far = reaches_r from r w ws none q.1 in
    rw q.0 (fold_least ws (min acc w.granule) from r lo (omega (arith, far, le)) (next some far) (λ a f t. any_later a w ws (none a f t))))
    (λ (q : Gt from w.granule).
    rw q.0 (fold_least ws acc from r lo le (skip some (omega (arith, q.1, lo))) (λ a f t. any_later a w ws (none a f t))))
    (leb_tells from w.granule)
  where
    next : (acc ≡ r) ⊎ (any_at r (w ∷ ws) ≡ true) → r ≤ w.granule → (min acc w.granule ≡ r) ⊎ (any_at r ws ≡ true)
    next (inl e) far = inl (omega (arith, e, far))
    next (inr t) far = ⊎_elim
        (λ (q : Yes w.granule r). inl (omega (arith, q.1, le)))
        (λ (q : No w.granule r). inr (rw q.0 at t))
        (eqb_tells w.granule r)

    skip : (acc ≡ r) ⊎ (any_at r (w ∷ ws) ≡ true) → w.granule < r → (acc ≡ r) ⊎ (any_at r ws ≡ true)
    skip (inl e) below = inl e
    skip (inr t) below = inr (rw (eq_no w.granule r (λ e. absurd (omega (arith, e, below)))) at t)

reduce_least : (ws : List TaggedWord) (from r : ℕ) → from ≤ r → any_at r ws ≡ true → NoneBetween from r ws → reduce min (rest_from from ws) ≡ Some r
reduce_least [] from r lo t none = absurd (cc)
reduce_least (w ∷ ws) from r lo t none = ⊎_elim
    (λ (q : Le from w.granule).
    let far = reaches_r from r w ws none q.1 in
    rw q.0 (ap (λ x. Some x) (fold_least ws w.granule from r lo far (here w ws r t) (λ a f b. any_later a w ws (none a f b)))))
    (λ (q : Gt from w.granule).
    rw q.0 (reduce_least ws from r lo (rw (eq_no w.granule r (λ e. absurd (omega (arith, e, q.1, lo)))) at t) (λ a f b. any_later a w ws (none a f b))))
    (leb_tells from w.granule)
  where
    here : (w : TaggedWord) (ws : List TaggedWord) (r : ℕ) → any_at r (w ∷ ws) ≡ true → (w.granule ≡ r) ⊎ (any_at r ws ≡ true)
    here w ws r t = ⊎_elim (λ (q : Yes w.granule r). inl q.1) (λ (q : No w.granule r). inr (rw q.0 at t)) (eqb_tells w.granule r)

reduce_none : (ws : List TaggedWord) (from : ℕ) → ((a : ℕ) → from ≤ a → any_at a ws ≡ false) → reduce min (rest_from from ws) ≡ None
reduce_none [] from none = refl
reduce_none (w ∷ ws) from none = ⊎_elim
    (λ (q : Le from w.granule).
    let no = none w.granule q.1 in
    let off = rw (eq_yes w.granule w.granule refl) at no in
    absurd (cc))
    (λ (q : Gt from w.granule). rw q.0 (reduce_none ws from (λ a f. any_later a w ws (none a f))))
    (leb_tells from w.granule)

-- the relation gives the function
pub first_tagged_some : (m : Inside) → (from r : ℕ) → IsFirstTagged (memory_of m) from r → first_tagged (memory_of m) from ≡ Some r
first_tagged_some m from r f = reduce_least (memory_of m).words from r f.order f.tagged f.least

pub first_tagged_none : (m : Inside) → (from : ℕ) → NoneTagged (memory_of m) from → first_tagged (memory_of m) from ≡ None
first_tagged_none m from f = reduce_none (memory_of m).words from f

-- a number that leaves a chain is in it no more, and the others are as before
pub has_gone : (g : ℕ) (xs : List ℕ) → has g (without g xs) ≡ false
has_gone g [] = refl
has_gone g (x ∷ xs) = ⊎_elim
    (λ (q : Yes x g). rw q.0 (has_gone g xs))
    (λ (q : No x g). rw (q.0, q.0) (has_gone g xs))
    (eqb_tells x g)

pub has_kept : (k g : ℕ) (xs : List ℕ) → k ≢ g → has k (without g xs) ≡ has k xs
has_kept k g [] ne = refl
has_kept k g (x ∷ xs) ne = ⊎_elim
    (λ (same : Yes x g). rw same.0 (⊎_elim
    (λ (q : Yes x k). absurd (ne (sym q.1 ∙ same.1)))
    (λ (q : No x k). rw q.0 (has_kept k g xs ne))
    (eqb_tells x k)))
    (λ (other : No x g). rw other.0 (ap (λ b. nat_eq x k || b) (has_kept k g xs ne)))
    (eqb_tells x g)

-- the bits after one was cleared, and its granule left the chain
pub cleared : (old new : List ℕ) (size g : ℕ) (chain : List ℕ)
    → ((k : ℕ) → bit_in new k ≡ (not (nat_eq k g) && bit_in old k)) → ((k : ℕ) → k < size → bit_in old k ≡ has k chain)
    → (k : ℕ) → k < size → bit_in new k ≡ has k (without g chain)
cleared old new size g chain bits tagged k low = bits k ∙ ⊎_elim
    (λ (q : Yes k g). rw (q.0, q.1) (sym (has_gone g chain)))
    (λ (q : No k g). rw q.0 (tagged k low ∙ sym (has_kept k g chain q.1)))
    (eqb_tells k g)

pub still_past : (old new : List ℕ) (size g : ℕ) → g < size
    → ((k : ℕ) → bit_in new k ≡ (not (nat_eq k g) && bit_in old k)) → ((k : ℕ) → size ≤ k → bit_in old k ≡ false)
    → (k : ℕ) → size ≤ k → bit_in new k ≡ false
still_past old new size g small bits past k hi = bits k ∙ ⊎_elim
    (λ (q : Yes k g). absurd (omega (arith, q.1, hi, small)))
    (λ (q : No k g). rw q.0 (past k hi))
    (eqb_tells k g)

-- who stands in a chain with one more
pub has_put : (k g s : ℕ) (xs : List ℕ) → has s xs ≡ true → has k (with_before g s xs) ≡ (nat_eq k g || has k xs)
has_put k g s [] h = absurd (cc)
has_put k g s (x ∷ xs) h = ⊎_elim
    (λ (same : Yes x s). rw (same.0, eq_sym g k) refl)
    (λ (other : No x s). rw other.0 (ap (λ b. nat_eq x k || b) (has_put k g s xs (rw other.0 at h)) ∙ swap_or (nat_eq x k) (nat_eq k g) (has k xs)))
    (eqb_tells x s)
  where
    swap_or : (a b c : Bool) → (a || (b || c)) ≡ (b || (a || c))
    swap_or true true c = refl
    swap_or true false c = refl
    swap_or false b c = refl

    eq_sym : (a b : ℕ) → nat_eq a b ≡ nat_eq b a
    eq_sym a b = ⊎_elim
        (λ (q : Yes a b). q.0 ∙ sym (eq_yes b a (sym q.1)))
        (λ (q : No a b). q.0 ∙ sym (eq_no b a (λ e. q.1 (sym e))))
        (eqb_tells a b)

pub tagged_put : (old new : List ℕ) (size g s : ℕ) (chain : List ℕ) → has s chain ≡ true
    → ((k : ℕ) → bit_in new k ≡ (nat_eq k g || bit_in old k)) → ((k : ℕ) → k < size → bit_in old k ≡ has k chain)
    → (k : ℕ) → k < size → bit_in new k ≡ has k (with_before g s chain)
tagged_put old new size g s chain h bits tagged k low = bits k ∙ ap (λ b. nat_eq k g || b) (tagged k low) ∙ sym (has_put k g s chain h)

pub past_put : (old new : List ℕ) (size g : ℕ) → g < size
    → ((k : ℕ) → bit_in new k ≡ (nat_eq k g || bit_in old k)) → ((k : ℕ) → size ≤ k → bit_in old k ≡ false)
    → (k : ℕ) → size ≤ k → bit_in new k ≡ false
past_put old new size g small bits past k hi = bits k ∙ ⊎_elim
    (λ (q : Yes k g). absurd (omega (arith, q.1, hi, small)))
    (λ (q : No k g). rw q.0 (past k hi))
    (eqb_tells k g)

-- new memory has no bit and no granule in its chain
pub has_low : (g a n : ℕ) → g < a → has g (range_with_len a n) ≡ false
has_low g a zero h = refl
has_low g a (suc n) h = ⊎_elim
    (λ (q : Yes a g). absurd (omega (arith, q.1, h)))
    (λ (q : No a g). rw q.0 (has_low g (a + 1) n (omega (arith, h))))
    (eqb_tells a g)

pub no_bits : (ws : List ℕ) → ((i : ℕ) → slice_index ws i ≡ 0) → (k : ℕ) → bit_in ws k ≡ false
no_bits ws z k = ap (λ w. nat_eq (bit_at w (k % 64)) 1) (z (k / 64)) ∙ ap (λ b. nat_eq b 1) (bit_at-zero (k % 64))

pub zero_at : (n i : ℕ) → slice_index (replicate n 0) i ≡ 0
zero_at zero i = refl
zero_at (suc n) zero = refl
zero_at (suc n) (suc i) = zero_at n i
