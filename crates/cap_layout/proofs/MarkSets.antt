-- The marks of a list are a set: lists with the same members have the same marks.
use Rattle.std.proofs.Common.{◌≡◌, ℕ, ◌<◌, ◌≤◌, Bool, true, false, not, ◌&&◌, ◌||◌, cond, List, [], ◌∷◌, inl, inr, refl, sym, ap, ◌∙◌, arith, subst}
use Rattle.std.specs.Prelude.{fold, ◌==◌, nat_lt, IsPermutation}
use Rattle.std.specs.List.{AllByRecursion, list_any}
use Rattle.std.proofs.lemmas.Bool.{eq-eqb, ne_eqb, eqb-true, eqb-false, ltb-true, ltb-false, cases_Bool, cases_order, true≢false}
use Rattle.std.proofs.lemmas.List.Sorted.{list_any-IsPermutation}
use Rattle.cap_layout.specs.Cuts.{with_mark, ascending}

-- all are above a number; each is below all later ones
abbrev pub Above : ℕ → List ℕ → Type 0
Above x ms = AllByRecursion (λ m. x < m) ms

abbrev pub Ascends : List ℕ → Type 0
Ascends [] = Unit {0}
Ascends (m ∷ ms) = Above m ms × Ascends ms

Above-lower : (x y : ℕ) (ms : List ℕ) → x < y → Above y ms → Above x ms
Above-lower x y [] lt h = tt
Above-lower x y (m ∷ ms) lt h = (omega (arith, lt, h.0), Above-lower x y ms lt h.1)

-- the three cases of one more mark
module _ (m : ℕ) (ms : List ℕ) (x : ℕ) where
  pub here : (x == m) ≡ true → with_mark (m ∷ ms) x ≡ m ∷ ms
  here e = ap (λ b. cond b (m ∷ ms) (cond (nat_lt x m) (x ∷ m ∷ ms) (m ∷ with_mark ms x))) e

  pub front : (x == m) ≡ false → nat_lt x m ≡ true → with_mark (m ∷ ms) x ≡ x ∷ m ∷ ms
  front e f = ap (λ b. cond b (m ∷ ms) (cond (nat_lt x m) (x ∷ m ∷ ms) (m ∷ with_mark ms x))) e ∙ ap (λ b. cond b (x ∷ m ∷ ms) (m ∷ with_mark ms x)) f

  pub further : (x == m) ≡ false → nat_lt x m ≡ false → with_mark (m ∷ ms) x ≡ m ∷ with_mark ms x
  further e f = ap (λ b. cond b (m ∷ ms) (cond (nat_lt x m) (x ∷ m ∷ ms) (m ∷ with_mark ms x))) e ∙ ap (λ b. cond b (x ∷ m ∷ ms) (m ∷ with_mark ms x)) f

or_swap : (a b c : Bool) → (a || (b || c)) ≡ (b || (a || c))
or_swap true true c = refl
or_swap true false c = refl
or_swap false b c = refl

or_twice : (a b : Bool) → (a || b) ≡ (a || (a || b))
or_twice true b = refl
or_twice false b = refl

-- one more mark is one more member
list_any-with_mark : (p : ℕ → Bool) (ms : List ℕ) (x : ℕ) → list_any p (with_mark ms x) ≡ (p x || list_any p ms)
list_any-with_mark p [] x = refl
list_any-with_mark p (m ∷ ms) x =
    let rest = list_any-with_mark p ms x in
    elim (cases_Bool (x == m)) [
      | inl same ↦
          ap (list_any p) (here m ms x same) ∙ or_twice (p m) (list_any p ms) ∙ ap (λ k. p k || (p m || list_any p ms)) (sym (eqb-true x m same))
      | inr other ↦ elim (cases_Bool (nat_lt x m)) [
        | inl below ↦ ap (list_any p) (front m ms x other below)
        | inr above ↦ ap (list_any p) (further m ms x other above) ∙ ap (λ b. p m || b) rest ∙ or_swap (p m) (p x) (list_any p ms)
      ]
    ]

list_any-fold : (p : ℕ → Bool) (xs ms : List ℕ) → list_any p (fold with_mark ms xs) ≡ (list_any p xs || list_any p ms)
list_any-fold p [] ms = refl
list_any-fold p (x ∷ xs) ms =
    list_any-fold p xs (with_mark ms x) ∙ ap (λ b. list_any p xs || b) (list_any-with_mark p ms x) ∙ or_turn (p x) (list_any p xs) (list_any p ms)
  where
    or_turn : (a b c : Bool) → (b || (a || c)) ≡ ((a || b) || c)
    or_turn true true c = refl
    or_turn true false c = refl
    or_turn false b c = refl

or-false : (a : Bool) → (a || false) ≡ a
or-false true = refl
or-false false = refl

-- marks have the members of the list
pub list_any-ascending : (p : ℕ → Bool) (xs : List ℕ) → list_any p (ascending xs) ≡ list_any p xs
list_any-ascending p xs = list_any-fold p xs [] ∙ or-false (list_any p xs)

Above-with_mark : (a : ℕ) (ms : List ℕ) (x : ℕ) → Above a ms → a < x → Above a (with_mark ms x)
Above-with_mark a [] x h lt = (lt, tt)
Above-with_mark a (m ∷ ms) x h lt =
    let rest = Above-with_mark a ms x h.1 lt in
    elim (cases_Bool (x == m)) [
      | inl same ↦ subst (Above a) (sym (here m ms x same)) h
      | inr other ↦ elim (cases_Bool (nat_lt x m)) [
        | inl below ↦ subst (Above a) (sym (front m ms x other below)) (lt, h)
        | inr above ↦ subst (Above a) (sym (further m ms x other above)) (h.0, rest)
      ]
    ]

Ascends-with_mark : (ms : List ℕ) (x : ℕ) → Ascends ms → Ascends (with_mark ms x)
Ascends-with_mark [] x h = (tt, tt)
Ascends-with_mark (m ∷ ms) x h =
    let rest = Ascends-with_mark ms x h.1 in
    elim (cases_Bool (x == m)) [
      | inl same ↦ subst Ascends (sym (here m ms x same)) h
      | inr other ↦ elim (cases_Bool (nat_lt x m)) [
        | inl below ↦
            let lt : x < m = ltb-true x m below in
            subst Ascends (sym (front m ms x other below)) ((lt, Above-lower x m ms lt h.0), h)
        | inr above ↦
            let le : m ≤ x = ltb-false x m above in
            let ne : x ≡ m → ⊥ = eqb-false x m other in
            let lt : m < x = omega (arith, le, ne) in
            subst Ascends (sym (further m ms x other above)) (Above-with_mark m ms x h.0 lt, rest)
      ]
    ]

pub Ascends-fold : (xs ms : List ℕ) → Ascends ms → Ascends (fold with_mark ms xs)
Ascends-fold [] ms h = h
Ascends-fold (x ∷ xs) ms h = Ascends-fold xs (with_mark ms x) (Ascends-with_mark ms x h)

-- a number below all is no member
pub no_member : (x : ℕ) (ms : List ℕ) → Above x ms → list_any (λ k. k == x) ms ≡ false
no_member x [] h = refl
no_member x (m ∷ ms) h =
    let other : (m == x) ≡ false = ne_eqb m x (λ e. omega (arith, e, h.0)) in
    ap (λ b. b || list_any (λ k. k == x) ms) other ∙ no_member x ms h.1

-- a test that leaves out a number below all
left_out : (p : ℕ → Bool) (x : ℕ) (ms : List ℕ) → Above x ms → list_any (λ k. not (k == x) && p k) ms ≡ list_any p ms
left_out p x [] h = refl
left_out p x (m ∷ ms) h =
    let other : (m == x) ≡ false = ne_eqb m x (λ e. omega (arith, e, h.0)) in
    ap (λ b. (not b && p m) || list_any (λ k. not (k == x) && p k) ms) other ∙ ap (λ b. p m || b) (left_out p x ms h.1)

Same : List ℕ → List ℕ → Type 0
Same xs ys = (p : ℕ → Bool) → list_any p xs ≡ list_any p ys

-- the first member of one is a member of the other, so no first member is below the other's
not_below : (x y : ℕ) (xs ys : List ℕ) → Above y ys → list_any (λ k. k == x) (x ∷ xs) ≡ list_any (λ k. k == x) (y ∷ ys) → x < y → ⊥
not_below x y xs ys h same lt =
    let mine : list_any (λ k. k == x) (x ∷ xs) ≡ true = ap (λ b. b || list_any (λ k. k == x) xs) (eq-eqb x x refl) in
    let none : list_any (λ k. k == x) (y ∷ ys) ≡ false = no_member x (y ∷ ys) (lt, Above-lower x y ys lt h) in
    true≢false (sym mine ∙ same ∙ none)

pub same_marks : (xs ys : List ℕ) → Ascends xs → Ascends ys → ((p : ℕ → Bool) → list_any p xs ≡ list_any p ys) → xs ≡ ys
same_marks [] [] a b same = refl
same_marks [] (y ∷ ys) a b same = absurd (true≢false (sym (ap (λ c. c || list_any (λ k. k == y) ys) (eq-eqb y y refl)) ∙ sym (same (λ k. k == y))))
same_marks (x ∷ xs) [] a b same = absurd (true≢false (sym (ap (λ c. c || list_any (λ k. k == x) xs) (eq-eqb x x refl)) ∙ same (λ k. k == x)))
same_marks (x ∷ xs) (y ∷ ys) a b same =
    let rest = same_marks xs ys a.1 b.1 in
    elim (cases_order x y) [
      | inl e ↦
          let tails : (p : ℕ → Bool) → list_any p xs ≡ list_any p ys = λ p.
          let out : (not (x == x) && p x) ≡ false = ap (λ c. not c && p x) (eq-eqb x x refl) in
          let out' : (not (y == x) && p y) ≡ false = ap (λ c. not c && p y) (eq-eqb y x (sym e)) in
          let left : list_any (λ k. not (k == x) && p k) (x ∷ xs) ≡ list_any p xs = ap (λ c. c || list_any (λ k. not (k == x) && p k) xs) out ∙ left_out p x xs a.0 in
          let right : list_any (λ k. not (k == x) && p k) (y ∷ ys) ≡ list_any p ys = ap (λ c. c || list_any (λ k. not (k == x) && p k) ys) out' ∙ left_out p x ys (subst (λ n. Above n ys) (sym e) b.0) in
          sym left ∙ same (λ k. not (k == x) && p k) ∙ right in
          ap (λ n. n ∷ xs) e ∙ ap (λ ns. y ∷ ns) (rest tails)
      | inr apart ↦ elim apart [
        | inl below ↦ absurd (not_below x y xs ys b.0 (same (λ k. k == x)) below)
        | inr above ↦ absurd (not_below y x ys xs a.0 (sym (same (λ k. k == y))) above)
      ]
    ]

-- the order in which marks come does not matter
pub ascending-permuted : (xs ys : List ℕ) → IsPermutation xs ys → ascending ys ≡ ascending xs
ascending-permuted xs ys h =
    same_marks (ascending ys) (ascending xs) (Ascends-fold ys [] tt) (Ascends-fold xs [] tt)
    (λ p. list_any-ascending p ys ∙ sym (list_any-IsPermutation p xs ys h) ∙ sym (list_any-ascending p xs))
