-- The words of a chain, and where they stand.
use Rattle.std.proofs.Common.{◌≡◌, ℕ, suc, zero, ◌+◌, ◌*◌, ◌<◌, ◌≤◌, Bool, true, false, List, [], ◌∷◌, cond, refl, ap, sym, ◌∙◌, arith, nat_eq, nat_lt, ⊎_elim, inl, inr}
use Rattle.std.specs.Prelude.{◌≢◌, ◌⊎◌, find, Some, None, is_some}
use Rattle.std.specs.List.{range_with_len}
use Rattle.std.proofs.lemmas.Bool.Decides.{eqb_tells, leb_tells}
use Rattle.cap_own.specs.Cap.{Cap}
use Rattle.cap_mem.specs.Tagged.{TaggedMemory, TaggedWord, stands_at, is_tagged, tagged_word, without_granule}
use Rattle.cap_mem.specs.Held.{words_of, Owned}
use Rattle.cap_mem.specs.Chain.{has, without}
use Rattle.cap_mem.specs.Bit.{bit_in}
use Rattle.cap_mem.specs.declared.memory.Memory.TheInside.{Inside}
use Rattle.cap_mem.specs.MemoryFields.{memory_of, caps_of, notes_of, AreTables}
use Rattle.cap_mem.proofs.Chains.{Yes, No, without_none, notin_has}

abbrev pub In : ℕ → ℕ → Type 0
In x size = (nat_lt x size ≡ true) × (x < size)

abbrev pub Out : ℕ → ℕ → Type 0
Out x size = (nat_lt x size ≡ false) × (size ≤ x)

pub lt_tells : (a b : ℕ) → In a b ⊎ Out a b
lt_tells a b = ⊎_elim
    (λ (h : (nat_lt a b ≡ true) × (suc a ≤ b)). inl (h.0, omega arith))
    (λ (h : (nat_lt a b ≡ false) × (b < suc a)). inr (h.0, omega arith))
    (leb_tells (suc a) b)

pub lt_yes : (a b : ℕ) → a < b → nat_lt a b ≡ true
lt_yes a b h = ⊎_elim (λ (i : In a b). i.0) (λ (o : Out a b). absurd (omega (arith, h, o.1))) (lt_tells a b)

pub lt_no : (a b : ℕ) → b ≤ a → nat_lt a b ≡ false
lt_no a b h = ⊎_elim (λ (i : In a b). absurd (omega (arith, h, i.1))) (λ (o : Out a b). o.0) (lt_tells a b)

pub eq_yes : (a b : ℕ) → a ≡ b → nat_eq a b ≡ true
eq_yes a b e = ⊎_elim (λ (q : Yes a b). q.0) (λ (q : No a b). absurd (q.1 e)) (eqb_tells a b)

pub eq_no : (a b : ℕ) → a ≢ b → nat_eq a b ≡ false
eq_no a b ne = ⊎_elim (λ (q : Yes a b). absurd (ne q.1)) (λ (q : No a b). q.0) (eqb_tells a b)

pub bool_cases : (b : Bool) → (b ≡ true → ⊥) → b ≡ false
bool_cases true h = absurd (h refl)
bool_cases false h = refl

abbrev pub word : ℕ → (ℕ → Cap) → (ℕ → ℕ) → ℕ → TaggedWord
word base caps nt x = record { granule = base + 16 * x; cap = caps x; note = nt x }

-- the granule at an index is that of no other
pub granule_same : (base x g : ℕ) → x ≡ g → nat_eq (base + 16 * x) (base + 16 * g) ≡ true
granule_same base x g e = eq_yes (base + 16 * x) (base + 16 * g) (omega (arith, e))

pub granule_other : (base x g : ℕ) → x ≢ g → nat_eq (base + 16 * x) (base + 16 * g) ≡ false
granule_other base x g ne = eq_no (base + 16 * x) (base + 16 * g) (λ e. absurd (ne (omega (arith, e))))

pub words_without : (base size : ℕ) (caps : ℕ → Cap) (nt : ℕ → ℕ) (g : ℕ) (xs : List ℕ) → g < size
    → words_of base size caps nt (without g xs) ≡ without_granule (base + 16 * g) (words_of base size caps nt xs)
words_without base size caps nt g [] small = refl
words_without base size caps nt g (x ∷ xs) small = ⊎_elim
    (λ (same : Yes x g). ⊎_elim
    (λ (i : In x size). rw (same.0, i.0, granule_same base x g same.1) (words_without base size caps nt g xs small))
    (λ (o : Out x size). absurd (omega (arith, o.1, same.1, small)))
    (lt_tells x size))
    (λ (other : No x g). ⊎_elim
    (λ (i : In x size). rw (other.0, i.0, granule_other base x g other.1) (ap (λ ws. word base caps nt x ∷ ws) (words_without base size caps nt g xs small)))
    (λ (o : Out x size). rw (other.0, o.0) (words_without base size caps nt g xs small))
    (lt_tells x size))
    (eqb_tells x g)

-- nothing leaves where nothing stands
pub without_absent : (base size : ℕ) (caps : ℕ → Cap) (nt : ℕ → ℕ) (g : ℕ) (xs : List ℕ) → g < size → has g xs ≡ false
    → without_granule (base + 16 * g) (words_of base size caps nt xs) ≡ words_of base size caps nt xs
without_absent base size caps nt g xs small h =
    sym (words_without base size caps nt g xs small) ∙ ap (words_of base size caps nt) (without_none g xs (notin_has g xs h))

pub owned_without : (size : ℕ) (ow : ℕ → ℕ) (o g : ℕ) (xs : List ℕ) → g < size → Owned size ow o xs → Owned size ow o (without g xs)
owned_without size ow o g [] small h = tt
owned_without size ow o g (x ∷ xs) small h = ⊎_elim
    (λ (same : Yes x g). ⊎_elim
    (λ (i : In x size). rw same.0 (owned_without size ow o g xs small (rw i.0 at h).1))
    (λ (q : Out x size). absurd (omega (arith, q.1, same.1, small)))
    (lt_tells x size))
    (λ (other : No x g). ⊎_elim
    (λ (i : In x size). let k = rw i.0 at h in rw (other.0, i.0) (k.0, owned_without size ow o g xs small k.1))
    (λ (q : Out x size). let k = rw q.0 at h in rw (other.0, q.0) (k.0, owned_without size ow (o + 1) g xs small k.1))
    (lt_tells x size))
    (eqb_tells x g)

-- the word at a granule
pub find_words : (base size : ℕ) (caps : ℕ → Cap) (nt : ℕ → ℕ) (g : ℕ) (xs : List ℕ) → g < size
    → find (stands_at (base + 16 * g)) (words_of base size caps nt xs) ≡ cond (has g xs) (Some (word base caps nt g)) None
find_words base size caps nt g [] small = refl
find_words base size caps nt g (x ∷ xs) small = ⊎_elim
    (λ (same : Yes x g). ⊎_elim
    (λ (i : In x size). rw (same.0, i.0, granule_same base x g same.1) (ap (λ y. Some (word base caps nt y)) same.1))
    (λ (o : Out x size). absurd (omega (arith, o.1, same.1, small)))
    (lt_tells x size))
    (λ (other : No x g). ⊎_elim
    (λ (i : In x size). rw (other.0, i.0, granule_other base x g other.1) (find_words base size caps nt g xs small))
    (λ (o : Out x size). rw (other.0, o.0) (find_words base size caps nt g xs small))
    (lt_tells x size))
    (eqb_tells x g)

is_some_cond : (b : Bool) (w : TaggedWord) → is_some (cond b (Some w) None) ≡ b
is_some_cond true w = refl
is_some_cond false w = refl

-- a granule is tagged exactly where it stands in the chain
pub tagged_is : (m : Inside) → (g : ℕ) → g < m.links.size → is_tagged (memory_of m) (m.base + 16 * g) ≡ has g m.links.chain
tagged_is m g below =
    ap is_some (find_words m.base m.links.size (caps_of m) (notes_of m) g m.links.chain below)
    ∙ is_some_cond (has g m.links.chain) (word m.base (caps_of m) (notes_of m) g)

pub word_at : (m : Inside) → AreTables m → (g : ℕ) (b : Bool) → g < m.links.size → bit_in m.tags.items g ≡ b
    → tagged_word (memory_of m) (m.base + 16 * g) ≡ cond b (Some (word m.base (caps_of m) (notes_of m) g)) None
word_at m i g b below e =
    find_words m.base m.links.size (caps_of m) (notes_of m) g m.links.chain below
    ∙ ap (λ t. cond t (Some (word m.base (caps_of m) (notes_of m) g)) None) (sym (i.tagged g below) ∙ e)

-- what is tagged is a granule of the chain
pub record IsFrom (base size a : ℕ) (xs : List ℕ) : Type 0 where
  pub g : ℕ
  pub below : g < size
  pub is : a ≡ base + 16 * g
  pub stands : has g xs ≡ true

pub tagged_from : (base size : ℕ) (caps : ℕ → Cap) (nt : ℕ → ℕ) (a : ℕ) (xs : List ℕ)
    → is_some (find (stands_at a) (words_of base size caps nt xs)) ≡ true → IsFrom base size a xs
tagged_from base size caps nt a [] h = absurd (cc)
tagged_from base size caps nt a (x ∷ xs) h = ⊎_elim
    (λ (i : In x size). ⊎_elim
    (λ (q : Yes (base + 16 * x) a). record { g = x; below = i.1; is = sym q.1; stands = here x xs })
    (λ (q : No (base + 16 * x) a).
    let f = tagged_from base size caps nt a xs (rw (i.0, q.0) at h) in
    record { g = f.g; below = f.below; is = f.is; stands = later f.g x xs f.stands })
    (eqb_tells (base + 16 * x) a))
    (λ (o : Out x size).
    let f = tagged_from base size caps nt a xs (rw o.0 at h) in
    record { g = f.g; below = f.below; is = f.is; stands = later f.g x xs f.stands })
    (lt_tells x size)
  where
    here : (x : ℕ) (xs : List ℕ) → has x (x ∷ xs) ≡ true
    here x xs = rw (eq_yes x x refl) refl

    later : (g x : ℕ) (xs : List ℕ) → has g xs ≡ true → has g (x ∷ xs) ≡ true
    later g x xs h = ⊎_elim (λ (q : Yes x g). rw q.0 refl) (λ (q : No x g). rw q.0 h) (eqb_tells x g)

pub stands_from : (m : Inside) → (a g : ℕ) → a ≡ m.base + 16 * g → g < m.links.size → is_tagged (memory_of m) a ≡ true → has g m.links.chain ≡ true
stands_from m a g e below t = sym (tagged_is m g below) ∙ ap (λ b. is_tagged (memory_of m) b) (sym e) ∙ t

-- new links hold no word
pub words_range : (base size : ℕ) (caps : ℕ → Cap) (nt : ℕ → ℕ) (a n : ℕ) → size ≤ a → words_of base size caps nt (range_with_len a n) ≡ []
words_range base size caps nt a zero h = refl
words_range base size caps nt a (suc n) h = ⊎_elim
    (λ (i : In a size). absurd (omega (arith, i.1, h)))
    (λ (o : Out a size). rw o.0 (words_range base size caps nt (a + 1) n (omega (arith, h))))
    (lt_tells a size)

pub owned_range : (size : ℕ) (ow : ℕ → ℕ) (o a n : ℕ) → a ≡ size + o + 1 → Owned size ow o (range_with_len a n)
owned_range size ow o a zero e = tt
owned_range size ow o a (suc n) e = ⊎_elim
    (λ (i : In a size). absurd (omega (arith, i.1, e)))
    (λ (q : Out a size). rw q.0 (e, owned_range size ow (o + 1) (a + 1) n (omega (arith, e))))
    (lt_tells a size)

pub words_head : (base size : ℕ) (caps : ℕ → Cap) (nt : ℕ → ℕ) (rest : List ℕ) → words_of base size caps nt (size ∷ rest) ≡ words_of base size caps nt rest
words_head base size caps nt rest = rw (lt_no size size (omega arith)) refl

pub tagged_granule : (m : Inside) (v : TaggedMemory) (a : ℕ) → memory_of m ≡ v → is_tagged v a ≡ true → IsFrom m.base m.links.size a m.links.chain
tagged_granule m v a e h = tagged_from m.base m.links.size (caps_of m) (notes_of m) a m.links.chain (ap (λ (w : TaggedMemory). is_tagged w a) e ∙ h)
