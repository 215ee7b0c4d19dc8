-- Members of lists of numbers, of ranges and of what a test leaves of them.
use Rattle.std.proofs.Common.{◌≡◌, ℕ, ◌+◌, ◌-◌, ◌<◌, ◌≤◌, Bool, true, false, ◌&&◌, ◌||◌, ◌⊎◌, ⊎_elim, inl, inr, List, [], ◌∷◌, ◌++◌, length, refl, sym, ap, subst, ◌∙◌, arith}
use Rattle.std.specs.Prelude.{map, filter, All, AllPairs, Contains}
use Rattle.std.specs.List.{range_with_len}
use Rattle.std.specs.List.Sorted.{IsStrictlyIncreasing}
use Rattle.std.proofs.lemmas.Bool.{cases_lt, cases_Bool}
use Rattle.std.proofs.lemmas.List.{length-append, get_or_append_left}
use Rattle.std.proofs.Math.Seq.{get_or-append_right}
use Rattle.std.proofs.lemmas.List.FromFn.{get_or-map-range_with_len, length-map-range_with_len}
use Rattle.std.proofs.lemmas.List.Elements.{All-contains, All-cons, All-nil, All-filter, All-contains_itself, filter_passes, Contains-append_cases, Contains-append_right}

pub first_or_rest : (x : ℕ) (xs : List ℕ) (k : ℕ) → Contains (x ∷ xs) k → (x ≡ k) ⊎ Contains xs k
first_or_rest x xs k has =
    ⊎_elim
    (λ (one : Contains (x ∷ []) k). inl (All-contains (λ y. x ≡ y) (x ∷ []) k (All-cons (λ y. x ≡ y) x [] refl (All-nil (λ y. x ≡ y))) one))
    (λ (later : Contains xs k). inr later)
    (Contains-append_cases (x ∷ []) xs k has)

has_first : (x : ℕ) (xs : List ℕ) → Contains (x ∷ xs) x
has_first x xs = (0, omega arith, refl)

pub contains_filter : (p : ℕ → Bool) (xs : List ℕ) (x : ℕ) → Contains xs x → p x ≡ true → Contains (filter p xs) x
contains_filter p [] x has passes = let lt = has.1 in absurd (omega arith)
contains_filter p (y ∷ ys) x has passes =
    ⊎_elim
    (λ (same : y ≡ x). let here : p y ≡ true = ap p same ∙ passes in rw here (subst (Contains (y ∷ filter p ys)) same (has_first y (filter p ys))))
    (λ (later : Contains ys x).
    let rest = contains_filter p ys x later passes in
    ⊎_elim
    (λ (t : p y ≡ true). rw t (Contains-append_right (y ∷ []) (filter p ys) x rest))
    (λ (f : p y ≡ false). rw f rest)
    (cases_Bool (p y)))
    (first_or_rest y ys x has)

pub filter_contains : (p : ℕ → Bool) (xs : List ℕ) (x : ℕ) → Contains (filter p xs) x → Contains xs x × (p x ≡ true)
filter_contains p xs x has = (
  All-contains (Contains xs) (filter p xs) x (All-filter p (Contains xs) xs (All-contains_itself xs)) has,
  All-contains (λ y. p y ≡ true) (filter p xs) x (filter_passes p xs) has,
)

pub in_range : (f : ℕ → ℕ) (n g : ℕ) → Contains (map f (range_with_len 0 n)) g → (i : ℕ) × (i < n) × (f i ≡ g)
in_range f n g has =
    let long = length-map-range_with_len f 0 n in
    let lt : has.0 < n = omega (arith, long, has.1) in
    (has.0, lt, sym (get_or-map-range_with_len f 0 n has.0 has.0 g lt (omega arith)) ∙ has.2)

pub range_has : (f : ℕ → ℕ) (n i : ℕ) → i < n → Contains (map f (range_with_len 0 n)) (f i)
range_has f n i lt =
    let long = length-map-range_with_len f 0 n in
    (i, omega arith, get_or-map-range_with_len f 0 n i i (f i) lt (omega arith))

pub range_rises : (f : ℕ → ℕ) (n : ℕ) → ((i : ℕ) → f i < f (i + 1)) → IsStrictlyIncreasing (map f (range_with_len 0 n))
range_rises f n up k lt =
    let long = length-map-range_with_len f 0 n in
    let a = get_or-map-range_with_len f 0 n k k 0 (omega arith) (omega arith) in
    let b = get_or-map-range_with_len f 0 n (k + 1) (k + 1) 0 (omega arith) (omega arith) in
    let c = up k in
    omega arith

-- each is below all later ones
abbrev pub Rises : List ℕ → Type 0
Rises xs = AllPairs (λ x y. x < y) xs

pub rises_append : (xs ys : List ℕ) (between : ℕ) → Rises xs → Rises ys → All (λ x. x < between) xs → All (λ y. between ≤ y) ys → Rises (xs ++ ys)
rises_append xs ys between up more low high i j d lt within =
    let n = length-append xs ys in
    ⊎_elim
    (λ (near : j < length xs).
    let a = get_or_append_left xs ys d i (omega arith) in
    let b = get_or_append_left xs ys d j near in
    let c = up i j d lt near in
    omega arith)
    (λ (far : length xs ≤ j).
    let b = get_or-append_right xs ys j d far in
    ⊎_elim
    (λ (first : i < length xs).
    let a = get_or_append_left xs ys d i first in
    let c = low i d first in
    let e = high (j - length xs) d (omega arith) in
    omega arith)
    (λ (second : length xs ≤ i).
    let a = get_or-append_right xs ys i d second in
    let c = more (i - length xs) (j - length xs) d (omega arith) (omega arith) in
    omega arith)
    (cases_lt i (length xs)))
    (cases_lt j (length xs))

pub and_left : (a b : Bool) → (a && b) ≡ true → a ≡ true
and_left true b t = refl
and_left false b t = t

pub and_right : (a b : Bool) → (a && b) ≡ true → b ≡ true
and_right true b t = t
and_right false b t = cc

pub or_left : (a b : Bool) → a ≡ true → (a || b) ≡ true
or_left a b t = rw t refl

pub or_right : (a b : Bool) → b ≡ true → (a || b) ≡ true
or_right true b t = refl
or_right false b t = t

pub or_cases : (a b : Bool) → (a || b) ≡ true → (a ≡ true) ⊎ (b ≡ true)
or_cases true b t = inl refl
or_cases false b t = inr t
