-- Which granules a store touches, and the words without them.
use Rattle.std.proofs.Common.{◌≡◌, ℕ, suc, zero, ◌+◌, ◌-◌, ◌*◌, ◌/◌, ◌%◌, ◌<◌, ◌≤◌, Bool, true, false, not, ◌||◌, List, [], ◌∷◌, cond, refl, ap, sym, ◌∙◌, arith, nat_eq, ⊎_elim, min, max}
use Rattle.std.specs.Prelude.{◌≢◌, filter, find, is_some}
use Rattle.std.proofs.lemmas.Bool.Decides.{eqb_tells}
use Rattle.cap_own.specs.Cap.{Cap}
use Rattle.cap_mem.specs.Tagged.{TaggedWord, stands_at, is_touched, without_touched, without_granule}
use Rattle.cap_mem.specs.Held.{words_of, without_range}
use Rattle.cap_mem.specs.declared.memory.Memory.TheInside.{Inside}
use Rattle.cap_mem.specs.MemoryFields.{memory_of, caps_of, notes_of, AreTables}
use Rattle.cap_mem.proofs.Chains.{Yes, No}
use Rattle.cap_mem.proofs.Granules.{In, Out, lt_tells, lt_yes, lt_no, bool_cases, word, tagged_from}

-- the granules of a range leave one by one
abbrev pub in_range : ℕ → ℕ → ℕ → ℕ → Bool
in_range base first zero granule = false
in_range base first (suc n) granule = nat_eq granule (base + 16 * (first + n)) || in_range base first n granule

filter-not-or : (p q : TaggedWord → Bool) (ws : List TaggedWord) → filter (λ w. not (p w)) (filter (λ w. not (q w)) ws) ≡ filter (λ w. not (p w || q w)) ws
filter-not-or p q [] = refl
filter-not-or p q (w ∷ ws) = go (filter-not-or p q ws) (p w) (q w) refl refl
  where
    go : filter (λ w. not (p w)) (filter (λ w. not (q w)) ws) ≡ filter (λ w. not (p w || q w)) ws → (a b : Bool) → p w ≡ a → q w ≡ b
        → filter (λ w. not (p w)) (filter (λ w. not (q w)) (w ∷ ws)) ≡ filter (λ w. not (p w || q w)) (w ∷ ws)
    go rest true true ep eq = rw (ep, eq) rest
    go rest true false ep eq = rw (ep, eq) (rw ep rest)
    go rest false true ep eq = rw (ep, eq) rest
    go rest false false ep eq = rw (ep, eq) (rw ep (ap (λ xs. w ∷ xs) rest))

filter_all : (ws : List TaggedWord) → filter (λ w. not false) ws ≡ ws
filter_all [] = refl
filter_all (w ∷ ws) = ap (λ xs. w ∷ xs) (filter_all ws)

range_is : (base first n : ℕ) (ws : List TaggedWord) → without_range base first n ws ≡ filter (λ w. not (in_range base first n w.granule)) ws
range_is base first zero ws = sym (filter_all ws)
range_is base first (suc n) ws =
    ap (without_granule (base + 16 * (first + n))) (range_is base first n ws)
    ∙ filter-not-or (λ w. nat_eq w.granule (base + 16 * (first + n))) (λ w. in_range base first n w.granule) ws

range_in : (base first n x : ℕ) → first ≤ x → x < first + n → in_range base first n (base + 16 * x) ≡ true
range_in base first zero x lo hi = absurd (omega (arith, lo, hi))
range_in base first (suc n) x lo hi = ⊎_elim
    (λ (q : Yes (base + 16 * x) (base + 16 * (first + n))). rw q.0 refl)
    (λ (q : No (base + 16 * x) (base + 16 * (first + n))). rw q.0 (range_in base first n x lo (less x (first + n) (omega (arith, hi)) (λ e. q.1 (ap (λ y. base + 16 * y) e)))))
    (eqb_tells (base + 16 * x) (base + 16 * (first + n)))
  where
    less : (a b : ℕ) → a ≤ b → a ≢ b → a < b
    less a b le ne = omega arith

range_out : (base first n x : ℕ) → (first ≤ x → first + n ≤ x) → in_range base first n (base + 16 * x) ≡ false
range_out base first zero x h = refl
range_out base first (suc n) x h = ⊎_elim
    (λ (q : Yes (base + 16 * x) (base + 16 * (first + n))). absurd (omega (arith, q.1, h)))
    (λ (q : No (base + 16 * x) (base + 16 * (first + n))). rw q.0 (range_out base first n x (λ lo. omega (arith, h lo))))
    (eqb_tells (base + 16 * x) (base + 16 * (first + n)))

touched_yes : (at len granule : ℕ) → granule < at + len → at < granule + 16 → 0 < len → is_touched at len granule ≡ true
touched_yes at len granule a b some = lt_yes (max at granule) (min (at + len) (granule + 16)) (omega (arith, a, b, some))

touched_no : (at len granule : ℕ) → min (at + len) (granule + 16) ≤ max at granule → is_touched at len granule ≡ false
touched_no at len granule h = lt_no (max at granule) (min (at + len) (granule + 16)) h

-- a granule is in the range exactly where the bytes touch it
touched_same : (base at len first n x : ℕ) → base ≤ at → 0 < len → base % 16 ≡ 0 → first ≡ (at - base) / 16 → first + n ≡ (at - base + (len - 1)) / 16 + 1
    → is_touched at len (base + 16 * x) ≡ in_range base first n (base + 16 * x)
touched_same base at len first n x from some al ef en = ⊎_elim
    (λ (a : In x first). touched_no at len (base + 16 * x) (omega (arith, a.1, ef, from)) ∙ sym (range_out base first n x (λ lo. absurd (omega (arith, lo, a.1)))))
    (λ (b : Out x first). ⊎_elim
    (λ (i : In x (first + n)). touched_yes at len (base + 16 * x) (omega (arith, i.1, en, from, some)) (omega (arith, b.1, ef, from)) some
    ∙ sym (range_in base first n x b.1 i.1))
    (λ (o : Out x (first + n)). touched_no at len (base + 16 * x) (omega (arith, o.1, en, from, some)) ∙ sym (range_out base first n x (λ lo. o.1)))
    (lt_tells x (first + n)))
    (lt_tells x first)

filter_words : (base size : ℕ) (caps : ℕ → Cap) (nt : ℕ → ℕ) (p q : ℕ → Bool) (xs : List ℕ) → ((x : ℕ) → p (base + 16 * x) ≡ q (base + 16 * x))
    → filter (λ w. not (p w.granule)) (words_of base size caps nt xs) ≡ filter (λ w. not (q w.granule)) (words_of base size caps nt xs)
filter_words base size caps nt p q [] h = refl
filter_words base size caps nt p q (x ∷ xs) h = ⊎_elim
    (λ (i : In x size). rw (i.0, h x) (keep (q (base + 16 * x)) (word base caps nt x) (filter (λ w. not (p w.granule)) (words_of base size caps nt xs)) (filter (λ w. not (q w.granule)) (words_of base size caps nt xs)) (filter_words base size caps nt p q xs h)))
    (λ (o : Out x size). rw o.0 (filter_words base size caps nt p q xs h))
    (lt_tells x size)
  where
    keep : (b : Bool) (w : TaggedWord) (us vs : List TaggedWord) → us ≡ vs → cond (not b) (w ∷ us) us ≡ cond (not b) (w ∷ vs) vs
    keep true w us vs e = e
    keep false w us vs e = ap (λ xs. w ∷ xs) e

pub touched_words : (m : Inside) → AreTables m → (at len first n : ℕ) → m.base ≤ at → 0 < len → first ≡ (at - m.base) / 16 → first + n ≡ (at - m.base + (len - 1)) / 16 + 1
    → without_range m.base first n (memory_of m).words ≡ without_touched at len (memory_of m).words
touched_words m i at len first n from some ef en =
    range_is m.base first n (memory_of m).words
    ∙ sym (filter_words m.base m.links.size (caps_of m) (notes_of m) (is_touched at len) (in_range m.base first n) m.links.chain
    (λ x. touched_same m.base at len first n x from some i.aligned ef en))

-- a store of no bytes touches nothing
pub untouched : (at : ℕ) (ws : List TaggedWord) → without_touched at 0 ws ≡ ws
untouched at [] = refl
untouched at (w ∷ ws) = rw (touched_no at 0 w.granule (omega arith)) (ap (λ xs. w ∷ xs) (untouched at ws))

-- of the words that are left, none stands at a granule that was touched
pub touched_gone : (at len a : ℕ) (ws : List TaggedWord) → is_touched at len a ≡ true → is_some (find (stands_at a) (without_touched at len ws)) ≡ false
touched_gone at len a [] h = refl
touched_gone at len a (w ∷ ws) h = go (touched_gone at len a ws h) (is_touched at len w.granule) refl
  where
    go : is_some (find (stands_at a) (without_touched at len ws)) ≡ false → (b : Bool) → is_touched at len w.granule ≡ b → is_some (find (stands_at a) (without_touched at len (w ∷ ws))) ≡ false
    go rest true e = rw e rest
    go rest false e = ⊎_elim
        (λ (q : Yes w.granule a). let no = ap (is_touched at len) (sym q.1) in absurd (cc))
        (λ (q : No w.granule a). rw (e, q.0) rest)
        (eqb_tells w.granule a)

-- nor at a granule that left
pub granule_gone : (a : ℕ) (ws : List TaggedWord) → is_some (find (stands_at a) (without_granule a ws)) ≡ false
granule_gone a [] = refl
granule_gone a (w ∷ ws) = ⊎_elim
    (λ (q : Yes w.granule a). rw q.0 (granule_gone a ws))
    (λ (q : No w.granule a). rw (q.0, q.0) (granule_gone a ws))
    (eqb_tells w.granule a)

granule_kept : (a g : ℕ) (ws : List TaggedWord) → is_some (find (stands_at a) (without_granule g ws)) ≡ true → is_some (find (stands_at a) ws) ≡ true
granule_kept a g [] h = h
granule_kept a g (w ∷ ws) h = ⊎_elim
    (λ (q : Yes w.granule a). rw q.0 refl)
    (λ (q : No w.granule a). rw q.0 (⊎_elim
    (λ (k : Yes w.granule g). granule_kept a g ws (rw k.0 at h))
    (λ (k : No w.granule g). granule_kept a g ws (rw (k.0, q.0) at h))
    (eqb_tells w.granule g)))
    (eqb_tells w.granule a)

-- 16 bytes at a granule touch no other granule
touched_alone : (base at x : ℕ) → base % 16 ≡ 0 → at % 16 ≡ 0 → is_touched at 16 (base + 16 * x) ≡ true → base + 16 * x ≡ at
touched_alone base at x al am h = ⊎_elim
    (λ (i : In (max at (base + 16 * x)) (min (at + 16) (base + 16 * x + 16))). omega (arith, i.1, al, am))
    (λ (o : Out (max at (base + 16 * x)) (min (at + 16) (base + 16 * x + 16))). let no = o.0 in absurd (cc))
    (lt_tells (max at (base + 16 * x)) (min (at + 16) (base + 16 * x + 16)))

pub alone_gone : (m : Inside) → AreTables m → (at a : ℕ) → at % 16 ≡ 0 → is_touched at 16 a ≡ true
    → is_some (find (stands_at a) (without_granule at (memory_of m).words)) ≡ false
alone_gone m i at a am h = bool_cases (is_some (find (stands_at a) (without_granule at (memory_of m).words))) (λ t.
    let f = tagged_from m.base m.links.size (caps_of m) (notes_of m) a m.links.chain (granule_kept a at (memory_of m).words t) in
    let same : a ≡ at = f.is ∙ touched_alone m.base at f.g i.aligned am (ap (is_touched at 16) (sym f.is) ∙ h) in
    let gone = granule_gone at (memory_of m).words in
    let here = rw same at t in
    absurd (cc))
