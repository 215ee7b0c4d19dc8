-- A set of names, seen by their bytes.
use Rattle.std.proofs.Common.{◌≡◌, ℕ, zero, suc, ◌+◌, ◌<◌, Bool, true, false, not, cond, ltb, ◌||◌, List, [], ◌∷◌, ◌++◌, length, map, get_or, Some, None, Bor, inl, inr, refl, sym, ap, subst, ◌∙◌, arith}
use Rattle.std.specs.Prelude.{position, unwrap_or}
use Rattle.std.specs.List.{list_any, position_or_len, AllByRecursion, IsDistinct}
use Rattle.std.specs.Str.{bytes_eq}
use Rattle.std.proofs.lemmas.Bool.{both_ways, false_from_ne_true, lt-ltb, ltb-true, cases_Bool}
use Rattle.std.proofs.lemmas.List.{length-map, map_push}
use Rattle.std.proofs.lemmas.Map.Keys.{IsDistinct-head, IsDistinct-tail}
use Rattle.indexmap.specs.IndexSet.{insert_key}
use Rattle.cap_syms.specs.Distinct.{with_new}
use Rattle.cap_syms.proofs.Firsts.{bytes_same}

abbrev pub Key : Type 0
Key = Bor (List ℕ)

abbrev pub texts : List Key → List (List ℕ)
texts ks = map (λ k. k.now) ks

-- a look-up by bytes finds the same as one by keys
pub any_texts : (p : List ℕ → Bool) (ks : List Key) → list_any (λ k. p k.now) ks ≡ list_any p (texts ks)
any_texts p [] = refl
any_texts p (k ∷ ks) = ap (λ b. p k.now || b) (any_texts p ks)

pub place_texts : (p : List ℕ → Bool) (ks : List Key) → position_or_len (λ k. p k.now) ks ≡ position_or_len p (texts ks)
place_texts p [] = refl
place_texts p (k ∷ ks) = ap (λ n. cond (not (p k.now)) (1 + n) 0) (place_texts p ks)

pub position_texts : (p : List ℕ → Bool) (ks : List Key) → position (λ k. p k.now) ks ≡ position p (texts ks)
position_texts p ks =
    let at : position_or_len (λ (k : Key). p k.now) ks ≡ position_or_len p (texts ks) = place_texts p ks in
    let long : length (texts ks) ≡ length ks = length-map ks (λ k. k.now) in
    ap (λ n. cond (ltb n (length ks)) (Some n) None) at ∙ ap (λ m. cond (ltb (position_or_len p (texts ks)) m) (Some (position_or_len p (texts ks))) None) (sym long)

-- the names with one more
pub add_texts : (ks : List Key) (k : Key) → texts (insert_key (λ a b. bytes_eq a.now b.now) ks k) ≡ with_new bytes_eq (texts ks) k.now
add_texts ks k = by (list_any (λ b. bytes_eq k.now b.now) ks) refl
  where
    by : (b : Bool) → list_any (λ j. bytes_eq k.now j.now) ks ≡ b → texts (insert_key (λ a b. bytes_eq a.now b.now) ks k) ≡ with_new bytes_eq (texts ks) k.now
    by true e =
        ap (λ c. texts (cond c ks (ks ++ k ∷ []))) e
        ∙ sym (ap (λ c. cond c (texts ks) (texts ks ++ k.now ∷ [])) (sym (any_texts (bytes_eq k.now) ks) ∙ e))
    by false e =
        ap (λ c. texts (cond c ks (ks ++ k ∷ []))) e
        ∙ map_push (λ j. j.now) ks k
        ∙ sym (ap (λ c. cond c (texts ks) (texts ks ++ k.now ∷ [])) (sym (any_texts (bytes_eq k.now) ks) ∙ e))

-- ---- a name that stands at a known place

abbrev same_key : Key → Key → Bool
same_key a b = bytes_eq a.now b.now

all_at : (P : Key → Type 0) (ks : List Key) (i : ℕ) (d : Key) → AllByRecursion P ks → i < length ks → P (get_or ks i d)
all_at P [] i d h lt = absurd (omega (arith, lt))
all_at P (k ∷ ks) zero d h lt = h.0
all_at P (k ∷ ks) (suc i) d h lt = all_at P ks i d h.1 (omega (arith, lt))

-- a name that stands at a place stands at no earlier one
distinct-place : (q : List ℕ) (ks : List Key) (i : ℕ) (d : Key) → IsDistinct same_key ks → i < length ks → bytes_eq q (get_or ks i d).now ≡ true → position_or_len (λ k. bytes_eq q k.now) ks ≡ i
distinct-place q [] i d distinct lt e = absurd (omega (arith, lt))
distinct-place q (k ∷ ks) zero d distinct lt e = ap (λ b. cond (not b) (1 + position_or_len (λ (x : Key). bytes_eq q x.now) ks) 0) e
distinct-place q (k ∷ ks) (suc i) d distinct lt e =
    let inside : i < length ks = omega (arith, lt) in
    let other : same_key k (get_or ks i d) ≡ false = all_at (λ y. same_key k y ≡ false) ks i d (IsDistinct-head same_key k ks distinct) inside in
    let apart : bytes_eq q k.now ≡ false = false_from_ne_true _ (λ h. both_ways (same_key k (get_or ks i d)) other (ap (λ b. bytes_eq b (get_or ks i d).now) (sym (bytes_same q k.now h)) ∙ e)) in
    let rest : position_or_len (λ (x : Key). bytes_eq q x.now) ks ≡ i = distinct-place q ks i d (IsDistinct-tail same_key k ks distinct) inside e in
    let at : position_or_len (λ (x : Key). bytes_eq q x.now) (k ∷ ks) ≡ 1 + position_or_len (λ (x : Key). bytes_eq q x.now) ks = ap (λ b. cond (not b) (1 + position_or_len (λ (x : Key). bytes_eq q x.now) ks) 0) apart in
    omega (arith, at, rest)

distinct-position : (q : List ℕ) (ks : List Key) (i : ℕ) (d : Key) → IsDistinct same_key ks → i < length ks → bytes_eq q (get_or ks i d).now ≡ true → Some i ≡ position (bytes_eq q) (texts ks)
distinct-position q ks i d distinct lt e =
    sym (ap (λ b. cond b (Some i) None) (lt-ltb i (length ks) lt))
    ∙ sym (ap (λ n. cond (ltb n (length ks)) (Some n) None) (distinct-place q ks i d distinct lt e))
    ∙ position_texts (bytes_eq q) ks

pub place-known : (q : List ℕ) (xs ks : List Key) (i : ℕ) (d : Key) → xs ≡ ks → IsDistinct same_key ks → i < length xs → bytes_eq q (get_or xs i d).now ≡ true → Some i ≡ position (bytes_eq q) (texts ks)
place-known q xs ks i d same distinct lt e =
    distinct-position q ks i d distinct (subst (λ ys. i < length ys) same lt) (subst (λ (ys : List Key). bytes_eq q (get_or ys i d).now ≡ true) same e)

-- a name that stands somewhere is one of them
placed-any : (p : List ℕ → Bool) (ns : List (List ℕ)) → position_or_len p ns < length ns → list_any p ns ≡ true
placed-any p [] lt = absurd (omega (arith, lt))
placed-any p (n ∷ ns) lt = elim (cases_Bool (p n)) [
  | inl e ↦ ap (λ c. c || list_any p ns) e
  | inr e ↦
      let at : position_or_len p (n ∷ ns) ≡ 1 + position_or_len p ns = ap (λ c. cond (not c) (1 + position_or_len p ns) 0) e in
      ap (λ c. c || list_any p ns) e ∙ placed-any p ns (omega (arith, at, lt))
]

-- its place, and that it isn't new
pub placed : (q : List ℕ) (ns : List (List ℕ)) (i : ℕ) → Some i ≡ position (bytes_eq q) ns → (i ≡ position_or_len (bytes_eq q) ns) × (ns ≡ with_new bytes_eq ns q)
placed q ns i e = by (ltb (position_or_len (bytes_eq q) ns) (length ns)) refl
  where
    at : ℕ
    at = position_or_len (bytes_eq q) ns

    by : (b : Bool) → ltb at (length ns) ≡ b → (i ≡ position_or_len (bytes_eq q) ns) × (ns ≡ with_new bytes_eq ns q)
    by true h =
        let is : Some i ≡ Some at = e ∙ ap (λ c. cond c (Some at) None) h in (
          ap (λ o. unwrap_or o 0) is,
          sym (ap (λ c. cond c ns (ns ++ q ∷ [])) (placed-any (bytes_eq q) ns (ltb-true at (length ns) h))),
        )
    by false h = let none : Some i ≡ None = e ∙ ap (λ c. cond c (Some at) None) h in absurd (cc)
