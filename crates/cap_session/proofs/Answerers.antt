-- The first object that answers to a name, among more objects and among fewer.
use Rattle.std.proofs.Common.{◌≡◌, ℕ, zero, suc, ◌+◌, ◌<◌, ◌≤◌, ◌⊎◌, Bool, true, false, cond, List, [], ◌∷◌, ◌++◌, length, get_or, map, take, drop, zip, Option, Some, None, inl, inr, refl, sym, ap, ◌∙◌, subst, arith}
use Rattle.std.specs.Prelude.{option_map, All, slice_index_or}
use Rattle.std.specs.List.{enumerate_from}
use Rattle.std.proofs.lemmas.List.{at_drop_more, at_drop_all}
use Rattle.cap_elf.specs.DynView.{DynRecords}
use Rattle.cap_session.specs.Loading.{Called, Loaded, place_of_first, called, records_of}

value_or : {X : Type 0} → X → Option X → X
value_or d None = d
value_or d (Some x) = x

pub some_same : {X : Type 0} (x y : X) → Some x ≡ Some y → x ≡ y
unfolding value_or
some_same x y e = ap (value_or x) e

-- what the step of a search says of its answer
abbrev pub step_of : Bool → Option ℕ → Option ℕ
step_of b o = cond b (Some 0) (option_map (λ i. i + 1) o)

abbrev pub IsStep : Bool → Option ℕ → ℕ → Type 0
IsStep b o i = ((b ≡ true) × (i ≡ 0)) ⊎ ((b ≡ false) × ((j : ℕ) × (o ≡ Some j) × (i ≡ j + 1)))

pub steps_to : (b : Bool) (o : Option ℕ) (i : ℕ) → step_of b o ≡ Some i → IsStep b o i
steps_to true o i e = inl (refl, sym (some_same 0 i e))
steps_to false None i e = absurd cc
steps_to false (Some j) i e = inr (refl, (j, refl, sym (some_same (j + 1) i e)))

pub step_true : (b : Bool) (o : Option ℕ) (i : ℕ) → b ≡ true → i ≡ 0 → step_of b o ≡ Some i
step_true true o i e is = ap Some (sym is)
step_true false o i e is = absurd cc

pub step_false : (b : Bool) (o : Option ℕ) (i j : ℕ) → b ≡ false → o ≡ Some j → i ≡ j + 1 → step_of b o ≡ Some i
step_false true o i j e at is = absurd cc
step_false false o i j e at is = ap (option_map (λ k. k + 1)) at ∙ ap Some (sym is)

-- the place of the first that passes, from a number on
abbrev pub first_from : {X : Type 0} → (ℕ × X → Bool) → ℕ → List X → Option ℕ
first_from p k xs = place_of_first p (enumerate_from k xs)

below_step : (b : Bool) (o : Option ℕ) (i n : ℕ) → ((j : ℕ) → o ≡ Some j → j < n) → IsStep b o i → i < n + 1
below_step b o i n rest (inl h) = omega (arith, h.1)
below_step b o i n rest (inr h) = (let low = rest h.1.0 h.1.1 in omega (arith, low, h.1.2))

pub first_below : {X : Type 0} (p : ℕ × X → Bool) (k : ℕ) (xs : List X) (i : ℕ) → first_from p k xs ≡ Some i → i < length xs
first_below p k [] i e = absurd cc
first_below p k (x ∷ xs) i e =
    let low = below_step (p (k, x)) (first_from p (k + 1) xs) i (length xs) (first_below p (k + 1) xs) (steps_to (p (k, x)) (first_from p (k + 1) xs) i e) in
    omega (arith, low)

kept_step : (b : Bool) (o o' : Option ℕ) (i : ℕ) → ((j : ℕ) → o ≡ Some j → i ≡ j + 1 → o' ≡ Some j) → IsStep b o i → step_of b o' ≡ Some i
kept_step b o o' i rest (inl h) = step_true b o' i h.0 h.1
kept_step b o o' i rest (inr h) = step_false b o' i h.1.0 h.0 (rest h.1.0 h.1.1 h.1.2) h.1.2

-- the first that passes stays the first where more come behind
pub first_front : {X : Type 0} (p : ℕ × X → Bool) (k : ℕ) (xs ys : List X) (i : ℕ) → first_from p k xs ≡ Some i → first_from p k (xs ++ ys) ≡ Some i
first_front p k [] ys i e = absurd cc
first_front p k (x ∷ xs) ys i e =
    kept_step (p (k, x)) (first_from p (k + 1) xs) (first_from p (k + 1) (xs ++ ys)) i (λ j at is. first_front p (k + 1) xs ys j at) (steps_to (p (k, x)) (first_from p (k + 1) xs) i e)

-- and where those behind it are taken away
pub first_taken : {X : Type 0} (p : ℕ × X → Bool) (k n : ℕ) (xs : List X) (i : ℕ) → i < n → first_from p k xs ≡ Some i → first_from p k (take n xs) ≡ Some i
first_taken p k zero xs i low e = absurd (omega (arith, low))
first_taken p k (suc n) [] i low e = absurd cc
first_taken p k (suc n) (x ∷ xs) i low e =
    kept_step (p (k, x)) (first_from p (k + 1) xs) (first_from p (k + 1) (take n xs)) i (λ j at is. first_taken p (k + 1) n xs j (omega (arith, low, is)) at) (steps_to (p (k, x)) (first_from p (k + 1) xs) i e)

pub zip_take : {X Y : Type 0} (n : ℕ) (xs : List X) (ys : List Y) → zip (take n xs) (take n ys) ≡ take n (zip xs ys)
zip_take zero xs ys = refl
zip_take (suc n) [] ys = refl
zip_take (suc n) (x ∷ xs) [] = refl
zip_take (suc n) (x ∷ xs) (y ∷ ys) = ap (λ zs. (x, y) ∷ zs) (zip_take n xs ys)

pub zip_push : {X Y : Type 0} (xs : List X) (ys : List Y) (x : X) (y : Y) → length xs ≡ length ys → zip (xs ++ x ∷ []) (ys ++ y ∷ []) ≡ zip xs ys ++ (x, y) ∷ []
zip_push [] [] x y same = refl
zip_push [] (b ∷ ys) x y same = absurd (omega (arith, same))
zip_push (a ∷ xs) [] x y same = absurd (omega (arith, same))
zip_push (a ∷ xs) (b ∷ ys) x y same = ap (λ zs. (a, b) ∷ zs) (zip_push xs ys x y (omega (arith, same)))

pub zip_called : (objects : List Loaded) → zip (map (λ o. o.name) objects) (map records_of objects) ≡ map called objects
zip_called [] = refl
zip_called (o ∷ objects) = ap (λ zs. called o ∷ zs) (zip_called objects)

head_or : {X : Type 0} → X → List X → X
head_or d [] = d
head_or d (x ∷ xs) = x

pub head_same : {X : Type 0} (x y : X) (xs ys : List X) → (x ∷ xs) ≡ (y ∷ ys) → x ≡ y
unfolding head_or
head_same x y xs ys e = ap (head_or x) e

pub tail_same : {X : Type 0} (x y : X) (xs ys : List X) → (x ∷ xs) ≡ (y ∷ ys) → xs ≡ ys
tail_same x y xs ys e = ap (drop 1) e

-- each of these names is answered as before by the objects that a condition holds of
pub names_kept : (a a' : List ℕ → Option ℕ) (P : ℕ → Type 0) (ns : List (List ℕ)) (is : List ℕ) → ((n : List ℕ) (i : ℕ) → P i → a n ≡ Some i → a' n ≡ Some i)
    → map a ns ≡ map Some is → All P is → map a' ns ≡ map Some is
names_kept a a' P [] [] keep e all = refl
names_kept a a' P [] (i ∷ is) keep e all = absurd cc
names_kept a a' P (n ∷ ns) [] keep e all = absurd cc
names_kept a a' P (n ∷ ns) (i ∷ is) keep e all =
    let here = keep n i (all 0 0 (omega arith)) (head_same (a n) (Some i) (map a ns) (map Some is) e) in
    let rest = names_kept a a' P ns is keep (tail_same (a n) (Some i) (map a ns) (map Some is) e) (λ k d lt. all (suc k) d (omega (arith, lt))) in
    ap (λ o. o ∷ map a' ns) here ∙ ap (λ os. Some i ∷ os) rest

-- the same for the needed names of objects
pub lists_kept : (a a' : List ℕ → Option ℕ) (P : ℕ → Type 0) (os : List DynRecords) (ds : List (List ℕ)) → ((n : List ℕ) (i : ℕ) → P i → a n ≡ Some i → a' n ≡ Some i)
    → map (λ o. map a o.needed) os ≡ map (map Some) ds → All (λ of. All P of) ds → map (λ o. map a' o.needed) os ≡ map (map Some) ds
lists_kept a a' P [] [] keep e all = refl
lists_kept a a' P [] (d ∷ ds) keep e all = absurd cc
lists_kept a a' P (o ∷ os) [] keep e all = absurd cc
lists_kept a a' P (o ∷ os) (d ∷ ds) keep e all =
    let here = names_kept a a' P o.needed d keep (head_same (map a o.needed) (map Some d) (map (λ o. map a o.needed) os) (map (map Some) ds) e) (all 0 [] (omega arith)) in
    let rest = lists_kept a a' P os ds keep (tail_same (map a o.needed) (map Some d) (map (λ o. map a o.needed) os) (map (map Some) ds) e) (λ k x lt. all (suc k) x (omega (arith, lt))) in
    ap (λ x. x ∷ map (λ o. map a' o.needed) os) here ∙ ap (λ xs. map Some d ∷ xs) rest

pub all_cons : {X : Type 0} (P : X → Type 0) (x : X) (xs : List X) → P x → All P xs → (k : ℕ) (d : X) → k < length (x ∷ xs) → P (slice_index_or (x ∷ xs) k d)
all_cons P x xs h t zero d lt = h
all_cons P x xs h t (suc k) d lt = t k d (omega (arith, lt))

pub names_below : (a : List ℕ → Option ℕ) (m : ℕ) (ns : List (List ℕ)) (is : List ℕ) → ((n : List ℕ) (i : ℕ) → a n ≡ Some i → i < m)
    → map a ns ≡ map Some is → All (λ i. i < m) is
names_below a m [] [] low e = λ k d lt. absurd (omega (arith, lt))
names_below a m [] (i ∷ is) low e = absurd cc
names_below a m (n ∷ ns) [] low e = absurd cc
names_below a m (n ∷ ns) (i ∷ is) low e =
    all_cons (λ j. j < m) i is (low n i (head_same (a n) (Some i) (map a ns) (map Some is) e)) (names_below a m ns is low (tail_same (a n) (Some i) (map a ns) (map Some is) e))

pub lists_below : (a : List ℕ → Option ℕ) (m : ℕ) (os : List DynRecords) (ds : List (List ℕ)) → ((n : List ℕ) (i : ℕ) → a n ≡ Some i → i < m)
    → map (λ o. map a o.needed) os ≡ map (map Some) ds → All (λ of. All (λ i. i < m) of) ds
lists_below a m [] [] low e = λ k d lt. absurd (omega (arith, lt))
lists_below a m [] (d ∷ ds) low e = absurd cc
lists_below a m (o ∷ os) [] low e = absurd cc
lists_below a m (o ∷ os) (d ∷ ds) low e =
    all_cons (λ of. All (λ i. i < m) of) d ds
    (names_below a m o.needed d low (head_same (map a o.needed) (map Some d) (map (λ o. map a o.needed) os) (map (map Some) ds) e))
    (lists_below a m os ds low (tail_same (map a o.needed) (map Some d) (map (λ o. map a o.needed) os) (map (map Some) ds) e))

-- a search that goes on past an object, that ends at one, and that finds none
pub search_on : {X : Type 0} (p : ℕ × X → Bool) (xs : List X) (i : ℕ) (d : X) (r : Option ℕ) → i < length xs → p (i, get_or xs i d) ≡ false
    → option_map (λ j. j + i) (first_from p i (drop i xs)) ≡ r → option_map (λ j. j + (i + 1)) (first_from p (i + 1) (drop (i + 1) xs)) ≡ r
search_on p xs i d r lt e h =
    shifted i (first_from p (i + 1) (drop (i + 1) xs))
    ∙ sym (ap (λ b. option_map (λ j. j + i) (step_of b (first_from p (i + 1) (drop (i + 1) xs)))) e)
    ∙ sym (at_drop_more (λ ys. option_map (λ j. j + i) (first_from p i ys)) xs i d lt)
    ∙ h
  where
    shifted : (i : ℕ) (o : Option ℕ) → option_map (λ j. j + (i + 1)) o ≡ option_map (λ j. j + i) (option_map (λ j. j + 1) o)
    shifted i None = refl
    shifted i (Some j) = ap Some (omega arith)

pub search_hit : {X : Type 0} (p : ℕ × X → Bool) (xs : List X) (i : ℕ) (d : X) (r : Option ℕ) → i < length xs → p (i, get_or xs i d) ≡ true
    → option_map (λ j. j + i) (first_from p i (drop i xs)) ≡ r → r ≡ Some i
search_hit p xs i d r lt e h =
    sym h ∙ at_drop_more (λ ys. option_map (λ j. j + i) (first_from p i ys)) xs i d lt
    ∙ ap (λ b. option_map (λ j. j + i) (step_of b (first_from p (i + 1) (drop (i + 1) xs)))) e ∙ ap Some (omega arith)

pub search_none : {X : Type 0} (p : ℕ × X → Bool) (xs : List X) (i : ℕ) (r : Option ℕ) → length xs ≤ i
    → option_map (λ j. j + i) (first_from p i (drop i xs)) ≡ r → r ≡ None
search_none p xs i r le h = sym h ∙ at_drop_all (λ ys. option_map (λ j. j + i) (first_from p i ys)) xs i le

pub search_start : (o : Option ℕ) → option_map (λ j. j + 0) o ≡ o
search_start None = refl
search_start (Some j) = ap Some (omega arith)

pub zip_at : {X Y : Type 0} (xs : List X) (ys : List Y) (i : ℕ) (d : X × Y) (x : X) (y : Y) → i < length xs → i < length ys → get_or (zip xs ys) i d ≡ (get_or xs i x, get_or ys i y)
zip_at [] ys i d x y lx ly = absurd (omega (arith, lx))
zip_at (a ∷ xs) [] i d x y lx ly = absurd (omega (arith, ly))
zip_at (a ∷ xs) (b ∷ ys) zero d x y lx ly = refl
zip_at (a ∷ xs) (b ∷ ys) (suc i) d x y lx ly = zip_at xs ys i d x y (omega (arith, lx)) (omega (arith, ly))

step_none : (b : Bool) (o : Option ℕ) → step_of b o ≡ None → (b ≡ false) × (o ≡ None)
step_none true o e = absurd cc
step_none false None e = (refl, refl)
step_none false (Some j) e = absurd cc

-- the last passes, where none before it does
pub first_last : {X : Type 0} (p : ℕ × X → Bool) (k n : ℕ) (xs : List X) (y : X) → n ≡ length xs → first_from p k xs ≡ None → p (k + n, y) ≡ true → first_from p k (xs ++ y ∷ []) ≡ Some n
first_last p k n [] y len e h =
    step_true (p (k, y)) None n (ap (λ m. p (m, y)) (omega (arith, len)) ∙ h) len
first_last p k n (x ∷ xs) y len e h =
    let none = step_none (p (k, x)) (first_from p (k + 1) xs) e in
    step_false (p (k, x)) (first_from p (k + 1) (xs ++ y ∷ [])) n (length xs) none.0
    (first_last p (k + 1) (length xs) xs y refl none.1 (ap (λ m. p (m, y)) (omega (arith, len)) ∙ h)) (omega (arith, len))
