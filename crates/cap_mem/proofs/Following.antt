-- The lists of the owners, by the links.
use Rattle.std.proofs.Common.{◌≡◌, ℕ, ◌+◌, ◌-◌, ◌*◌, ◌/◌, ◌<◌, ◌≤◌, true, List, [], ◌∷◌, length, cond, refl, ap, sym, ◌∙◌, arith, nat_eq, nat_lt, ⊎_elim, subst}
use Rattle.std.specs.Prelude.{◌≢◌, filter, Option, Some, None}
use Rattle.std.proofs.lemmas.Bool.Decides.{eqb_tells}
use Rattle.cap_own.specs.Cap.{Cap}
use Rattle.cap_mem.specs.Tagged.{is_of, list_of, first_granule, granule_after, next_granule, next_in}
use Rattle.cap_mem.specs.Held.{words_of, granule_of, Owned}
use Rattle.cap_mem.specs.Chain.{has, following, following_in}
use Rattle.cap_mem.specs.Bit.{bit_in}
use Rattle.cap_mem.specs.declared.memory.Memory.TheInside.{Inside}
use Rattle.cap_mem.specs.MemoryFields.{memory_of, caps_of, notes_of, owners_of, AreTables}
use Rattle.cap_mem.proofs.Chains.{Yes, No}
use Rattle.cap_mem.proofs.Tables.{has_rest}
use Rattle.cap_mem.proofs.Granules.{In, Out, lt_tells, eq_yes, eq_no, granule_same, granule_other, word_at, words_head}
use Rattle.cap_mem.proofs.Entered.{OwnedBy}

-- who isn't the head is in the rest
has_other : (x s : ℕ) (xs : List ℕ) → x ≢ s → has s (x ∷ xs) ≡ true → has s xs ≡ true
has_other x s xs ne h = ⊎_elim (λ (q : Yes x s). absurd (ne q.1)) (λ (q : No x s). rw q.0 at h) (eqb_tells x s)

-- the first word of an owner
abbrev pub granule_if : ℕ → ℕ → ℕ → Option ℕ
granule_if base size x = cond (nat_lt x size) (Some (base + 16 * x)) None

none_of : (base size o p : ℕ) (caps : ℕ → Cap) (nt : ℕ → ℕ) (xs : List ℕ) → OwnedBy size caps p xs → o < p → filter (is_of o) (words_of base size caps nt xs) ≡ []
none_of base size o p caps nt [] h lt = refl
none_of base size o p caps nt (x ∷ xs) h lt = ⊎_elim
    (λ (i : In x size). let k = rw i.0 at h in
    ⊎_elim
    (λ (q : Yes (caps x).owner o). absurd (omega (arith, q.1, k.0, lt)))
    (λ (q : No (caps x).owner o). rw (i.0, q.0) (none_of base size o p caps nt xs k.1 lt))
    (eqb_tells (caps x).owner o))
    (λ (q : Out x size). let k = rw q.0 at h in rw q.0 (none_of base size o (p + 1) caps nt xs k.1 (omega (arith, lt))))
    (lt_tells x size)

first_here : (base size o prev : ℕ) (caps : ℕ → Cap) (nt : ℕ → ℕ) (xs : List ℕ) → OwnedBy size caps o xs → has (size + o + 1) xs ≡ true → prev ≡ size + o
    → first_granule (filter (is_of o) (words_of base size caps nt xs)) ≡ granule_if base size (following (size + o) prev xs)
first_here base size o prev caps nt [] h stands e = absurd (cc)
first_here base size o prev caps nt (x ∷ xs) h stands e = ⊎_elim
    (λ (mark : Yes prev (size + o)). ⊎_elim
    (λ (i : In x size). let k = rw i.0 at h in
    ⊎_elim
    (λ (q : Yes (caps x).owner o). rw (mark.0, i.0, q.0) refl)
    (λ (q : No (caps x).owner o). absurd (q.1 k.0))
    (eqb_tells (caps x).owner o))
    (λ (q : Out x size). let k = rw q.0 at h in rw (mark.0, q.0, none_of base size o (o + 1) caps nt xs k.1 (omega arith)) refl)
    (lt_tells x size))
    (λ (no_mark : No prev (size + o)). absurd (no_mark.1 e))
    (eqb_tells prev (size + o))

first_later : (base size o p prev : ℕ) (caps : ℕ → Cap) (nt : ℕ → ℕ) (xs : List ℕ) → OwnedBy size caps p xs → p < o → prev ≢ size + o → has (size + o) xs ≡ true → has (size + o + 1) xs ≡ true
    → first_granule (filter (is_of o) (words_of base size caps nt xs)) ≡ granule_if base size (following (size + o) prev xs)
first_later base size o p prev caps nt [] h lt ne stands ends = absurd (cc)
first_later base size o p prev caps nt (x ∷ xs) h lt ne stands ends = ⊎_elim
    (λ (mark : Yes prev (size + o)). absurd (ne mark.1))
    (λ (other : No prev (size + o)). ⊎_elim
    (λ (i : In x size). let k = rw i.0 at h in
    ⊎_elim
    (λ (q : Yes (caps x).owner o). absurd (omega (arith, q.1, k.0, lt)))
    (λ (q : No (caps x).owner o). rw (other.0, i.0, q.0) (first_later base size o p x caps nt xs k.1 lt (λ e. absurd (omega (arith, e, i.1)))
    (has_other x (size + o) xs (λ e. absurd (omega (arith, e, i.1))) stands) (has_other x (size + o + 1) xs (λ e. absurd (omega (arith, e, i.1))) ends)))
    (eqb_tells (caps x).owner o))
    (λ (q : Out x size). let k = rw q.0 at h in
    ⊎_elim
    (λ (here : Yes x (size + o)). rw (other.0, q.0) (first_here base size o x caps nt xs (subst (λ (z : ℕ). OwnedBy size caps z xs) (omega (arith, here.1, k.0)) k.1)
    (has_other x (size + o + 1) xs (λ e. absurd (omega (arith, e, here.1))) ends) here.1))
    (λ (there : No x (size + o)). rw (other.0, q.0) (first_later base size o (p + 1) x caps nt xs k.1 (omega (arith, there.1, k.0, lt)) there.1
    (has_other x (size + o) xs there.1 stands) (has_other x (size + o + 1) xs (λ e. absurd (omega (arith, e, k.0, lt))) ends)))
    (eqb_tells x (size + o)))
    (lt_tells x size))
    (eqb_tells prev (size + o))

pub mark_stands : (size o : ℕ) (rest : List ℕ) → o < 256 → ((k : ℕ) → k < 256 → has (size + k + 1) rest ≡ true) → has (size + o) (size ∷ rest) ≡ true
mark_stands size o rest low h = ⊎_elim
    (λ (q : Yes size (size + o)). rw q.0 refl)
    (λ (q : No size (size + o)). rw q.0 (
    let before : o - 1 < 256 = omega (arith, low) in
    let e : size + (o - 1) + 1 ≡ size + o = omega (arith, q.1) in
    rw e at (h (o - 1) before)))
    (eqb_tells size (size + o))

pub first_is : (m : Inside) → AreTables m → (o : ℕ) → o < 256 → first_granule (list_of (memory_of m) o) ≡ granule_if m.base m.links.size (following_in (m.links.size + o) m.links.chain)
first_is m i o low =
    ap (λ cs. first_granule (filter (is_of o) (words_of m.base m.links.size (caps_of m) (notes_of m) cs))) i.starts
    ∙ ap (λ ws. first_granule (filter (is_of o) ws)) (words_head m.base m.links.size (caps_of m) (notes_of m) i.rest)
    ∙ ⊎_elim
    (λ (q : Yes 0 o). first_here m.base m.links.size o m.links.size (caps_of m) (notes_of m) i.rest
    (subst (λ (z : ℕ). Owned m.links.size (owners_of m) z i.rest) q.1 i.owned) (i.marks o low) (omega (arith, q.1)))
    (λ (q : No 0 o). first_later m.base m.links.size o 0 m.links.size (caps_of m) (notes_of m) i.rest i.owned (omega (arith, q.1)) (λ e. q.1 (omega (arith, e)))
    (has_other m.links.size (m.links.size + o) i.rest (λ e. q.1 (omega (arith, e))) (mark_stands m.links.size o i.rest low i.marks)) (i.marks o low))
    (eqb_tells 0 o)
    ∙ ap (λ cs. granule_if m.base m.links.size (following_in (m.links.size + o) cs)) (sym i.starts)

-- what follows g in its owner's list
owner_from : (size p g : ℕ) (ow : ℕ → ℕ) (xs : List ℕ) → Owned size ow p xs → has g xs ≡ true → g < size → p ≤ ow g
owner_from size p g ow [] h stands small = absurd (cc)
owner_from size p g ow (x ∷ xs) h stands small = ⊎_elim
    (λ (same : Yes x g). ⊎_elim
    (λ (i : In x size). let k = rw i.0 at h in let e : ow g ≡ p = ap ow (sym same.1) ∙ k.0 in omega (arith, e))
    (λ (o : Out x size). absurd (omega (arith, o.1, same.1, small)))
    (lt_tells x size))
    (λ (other : No x g). ⊎_elim
    (λ (i : In x size). let k = rw i.0 at h in owner_from size p g ow xs k.1 (rw other.0 at stands) small)
    (λ (o : Out x size). let k = rw o.0 at h in let r = owner_from size (p + 1) g ow xs k.1 (rw other.0 at stands) small in omega (arith, r))
    (lt_tells x size))
    (eqb_tells x g)

first_after : (base size o s : ℕ) (caps : ℕ → Cap) (nt : ℕ → ℕ) (xs : List ℕ) → OwnedBy size caps o xs → has (size + o + 1) xs ≡ true
    → first_granule (filter (is_of o) (words_of base size caps nt xs)) ≡ granule_if base size (following s s xs)
first_after base size o s caps nt [] h stands = absurd (cc)
first_after base size o s caps nt (x ∷ xs) h stands = ⊎_elim
    (λ (mark : Yes s s). ⊎_elim
    (λ (i : In x size). let k = rw i.0 at h in
    ⊎_elim
    (λ (q : Yes (caps x).owner o). rw (mark.0, i.0, q.0) refl)
    (λ (q : No (caps x).owner o). absurd (q.1 k.0))
    (eqb_tells (caps x).owner o))
    (λ (q : Out x size). let k = rw q.0 at h in rw (mark.0, q.0, none_of base size o (o + 1) caps nt xs k.1 (omega arith)) refl)
    (lt_tells x size))
    (λ (no_mark : No s s). absurd (no_mark.1 refl))
    (eqb_tells s s)

pub next_later : (base size o p g prev : ℕ) (caps : ℕ → Cap) (nt : ℕ → ℕ) (xs : List ℕ) → OwnedBy size caps p xs → p ≤ o → has g xs ≡ true → g < size → (caps g).owner ≡ o → prev ≢ g → has (size + o + 1) xs ≡ true
    → granule_after (base + 16 * g) (filter (is_of o) (words_of base size caps nt xs)) ≡ granule_if base size (following g prev xs)
next_later base size o p g prev caps nt [] h le stands small eo ne ends = absurd (cc)
next_later base size o p g prev caps nt (x ∷ xs) h le stands small eo ne ends = ⊎_elim
    (λ (mark : Yes prev g). absurd (ne mark.1))
    (λ (skip : No prev g). ⊎_elim
    (λ (i : In x size).
    let k = rw i.0 at h in
    let more : has (size + o + 1) xs ≡ true = has_other x (size + o + 1) xs (λ e. absurd (omega (arith, e, i.1))) ends in
    ⊎_elim
    (λ (same : Yes x g).
    let po : p ≡ o = sym k.0 ∙ ap (λ y. (caps y).owner) same.1 ∙ eo in
    let own : nat_eq (caps x).owner o ≡ true = eq_yes (caps x).owner o (k.0 ∙ po) in
    rw (skip.0, i.0, own, granule_same base x g same.1)
    (first_after base size o g caps nt xs (subst (λ (z : ℕ). OwnedBy size caps z xs) po k.1) more ∙ ap (λ y. granule_if base size (following g y xs)) (sym same.1)))
    (λ (other : No x g).
    let rest = next_later base size o p g x caps nt xs k.1 le (rw other.0 at stands) small eo other.1 more in
    ⊎_elim
    (λ (own : Yes (caps x).owner o). rw (skip.0, i.0, own.0, granule_other base x g other.1) rest)
    (λ (own : No (caps x).owner o). rw (skip.0, i.0, own.0) rest)
    (eqb_tells (caps x).owner o))
    (eqb_tells x g))
    (λ (q : Out x size).
    let k = rw q.0 at h in
    let other : x ≢ g = λ e. absurd (omega (arith, e, q.1, small)) in
    let inside : has g xs ≡ true = has_other x g xs other stands in
    let least : p + 1 ≤ (caps g).owner = owner_from size (p + 1) g (λ k. (caps k).owner) xs k.1 inside small in
    rw (skip.0, q.0) (next_later base size o (p + 1) g x caps nt xs k.1 (omega (arith, least, eo)) inside small eo other
    (has_other x (size + o + 1) xs (λ e. absurd (omega (arith, e, k.0, least, eo))) ends)))
    (lt_tells x size))
    (eqb_tells prev g)

pub next_word : (m : Inside) → AreTables m → (g : ℕ) → g < m.links.size → has g m.links.chain ≡ true
    → next_granule (memory_of m) (m.base + 16 * g) ≡ granule_if m.base m.links.size (following_in g m.links.chain)
next_word m i g below stands =
    let bit : bit_in m.tags.items g ≡ true = i.tagged g below ∙ stands in
    let w = word_at m i g true below bit in
    let inside : has g i.rest ≡ true = has_rest m.links.size g i.rest below (ap (λ cs. has g cs) (sym i.starts) ∙ stands) in
    ap (next_in (memory_of m) (m.base + 16 * g)) w
    ∙ ap (λ cs. granule_after (m.base + 16 * g) (filter (is_of (owners_of m g)) (words_of m.base m.links.size (caps_of m) (notes_of m) cs))) i.starts
    ∙ ap (λ ws. granule_after (m.base + 16 * g) (filter (is_of (owners_of m g)) ws)) (words_head m.base m.links.size (caps_of m) (notes_of m) i.rest)
    ∙ next_later m.base m.links.size (owners_of m g) 0 g m.links.size (caps_of m) (notes_of m) i.rest i.owned (omega arith) inside below refl
    (λ e. absurd (omega (arith, e, below))) (i.marks (owners_of m g) (i.owners_low g))
    ∙ ap (λ cs. granule_if m.base m.links.size (following_in g cs)) (sym i.starts)

pub granule_is : (m : Inside) → AreTables m → (x : ℕ) → granule_of (memory_of m) x ≡ granule_if m.base m.links.size x
granule_is m i x =
    let size : length m.bytes.items / 16 ≡ m.links.size = omega (arith, i.bytes_len) in
    ap (λ s. granule_if m.base s x) size

-- no owner is 256 or more
none_high : (base size o : ℕ) (caps : ℕ → Cap) (nt : ℕ → ℕ) (xs : List ℕ) → ((g : ℕ) → (caps g).owner < 256) → 256 ≤ o → filter (is_of o) (words_of base size caps nt xs) ≡ []
none_high base size o caps nt [] low high = refl
none_high base size o caps nt (x ∷ xs) low high = ⊎_elim
    (λ (i : In x size).
    let below = low x in
    rw (i.0, eq_no (caps x).owner o (λ e. absurd (omega (arith, e, below, high)))) (none_high base size o caps nt xs low high))
    (λ (q : Out x size). rw q.0 (none_high base size o caps nt xs low high))
    (lt_tells x size)

pub first_none : (m : Inside) → AreTables m → (o : ℕ) → 256 ≤ o → first_granule (list_of (memory_of m) o) ≡ None
first_none m i o high = ap first_granule (none_high m.base m.links.size o (caps_of m) (notes_of m) m.links.chain i.owners_low high)
