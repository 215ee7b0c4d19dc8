-- Ascending lists with the same members are the same.
use Rattle.std.proofs.Common.{◌≡◌, ℕ, suc, ◌<◌, ◌≤◌, Bool, true, ◌⊎◌, ⊎_elim, List, [], ◌∷◌, refl, sym, arith, inl, inr}
use Rattle.std.specs.Prelude.{Contains, slice_index}
use Rattle.std.specs.List.{AllPairs}
use Rattle.std.proofs.lemmas.List.Elements.{All-contains, All-cons, All-nil, All-from_get_or, Contains-get_or, Contains-append_cases, Contains-append_right}
use Rattle.std.proofs.lemmas.List.Kept.{AllPairs-from_increasing}
use Rattle.cap_reach.specs.Laws.{ReachIsOne, ReachIsLeast, IsClosed}
use Rattle.cap_reach.specs.Reach.{PlacedWord, Reached}
use Rattle.cap_reach.specs.Reach.Reached.{at_start, by_load}

-- each is below all later ones
abbrev Rises : List ℕ → Type 0
Rises xs = AllPairs (λ x y. x < y) xs

above : (x : ℕ) (xs : List ℕ) → Rises (x ∷ xs) → (k : ℕ) → Contains xs k → x < k
above x xs up k has = All-contains (λ y. x < y) xs k (λ q d lt. up 0 (suc q) d (omega arith) (omega arith)) has

rest : (x : ℕ) (xs : List ℕ) → Rises (x ∷ xs) → Rises xs
rest x xs up i j d lt within = up (suc i) (suc j) d (omega arith) (omega arith)

first_or_rest : (x : ℕ) (xs : List ℕ) (k : ℕ) → Contains (x ∷ xs) k → (x ≡ k) ⊎ Contains xs k
first_or_rest x xs k has =
    ⊎_elim
    (λ (one : Contains (x ∷ []) k). inl (All-contains (λ y. x ≡ y) (x ∷ []) k (All-cons (λ y. x ≡ y) x [] refl (All-nil (λ y. x ≡ y))) one))
    (λ (later : Contains xs k). inr later)
    (Contains-append_cases (x ∷ []) xs k has)

has_first : (x : ℕ) (xs : List ℕ) → Contains (x ∷ xs) x
has_first x xs = (0, omega arith, refl)

has_rest : (x : ℕ) (xs : List ℕ) (k : ℕ) → Contains xs k → Contains (x ∷ xs) k
has_rest x xs k has = Contains-append_right (x ∷ []) xs k has

not_below : (x : ℕ) (xs : List ℕ) → Rises (x ∷ xs) → (k : ℕ) → Contains (x ∷ xs) k → x ≤ k
not_below x xs up k has =
    ⊎_elim (λ (same : x ≡ k). omega arith) (λ (later : Contains xs k). let lt = above x xs up k later in omega arith) (first_or_rest x xs k has)

-- a member of one rest is one of the other
over : (x y : ℕ) (xs ys : List ℕ) → x ≡ y → Rises (x ∷ xs) → ((k : ℕ) → Contains (x ∷ xs) k → Contains (y ∷ ys) k) → (k : ℕ) → Contains xs k → Contains ys k
over x y xs ys same up each k has =
    let lt = above x xs up k has in
    ⊎_elim (λ (one : y ≡ k). absurd (omega arith)) (λ (later : Contains ys k). later) (first_or_rest y ys k (each k (has_rest x xs k has)))

pub same_members : (xs ys : List ℕ) → Rises xs → Rises ys → ((k : ℕ) → Contains xs k → Contains ys k) → ((k : ℕ) → Contains ys k → Contains xs k) → xs ≡ ys
same_members [] [] up down to from = refl
same_members [] (y ∷ ys) up down to from = let has = from y (has_first y ys) in let lt = has.1 in absurd (omega arith)
same_members (x ∷ xs) [] up down to from = let has = to x (has_first x xs) in let lt = has.1 in absurd (omega arith)
same_members (x ∷ xs) (y ∷ ys) up down to from =
    let low = not_below y ys down x (to x (has_first x xs)) in
    let high = not_below x xs up y (from y (has_first y ys)) in
    let first : x ≡ y = omega arith in
    let later : xs ≡ ys = same_members xs ys (rest x xs up) (rest y ys down) (over x y xs ys first up to) (over y x ys xs (sym first) down from) in
    cc

pub one_reach : ReachIsOne
one_reach words start xs ys a b =
    same_members xs ys (AllPairs-from_increasing xs a.ascending) (AllPairs-from_increasing ys b.ascending)
    (λ k has. (b.each k).1 ((a.each k).0 has))
    (λ k has. (a.each k).1 ((b.each k).0 has))

-- each closed set that has the start has all that is reached
in_closed : (words : List PlacedWord) (start : ℕ) (set : ℕ → Bool) → set start ≡ true → IsClosed words set → (k : ℕ) → Reached words start k → set k ≡ true
in_closed words start set first closed _ at_start = first
in_closed words start set first closed _ (by_load from to r here there loaded) = closed from to (in_closed words start set first closed from.granule r) here there loaded

pub least_reach : ReachIsLeast
least_reach words start slots are = record {
  has_start = (are.each start).1 at_start;
  closed = λ from to has here there loaded. (are.each to).1 (by_load from to ((are.each from.granule).0 has) here there loaded);
  least = λ set first closed. All-from_get_or (λ slot. set slot ≡ true) slots 0 (λ q lt. in_closed words start set first closed (slice_index slots q) ((are.each (slice_index slots q)).0 (Contains-get_or slots q 0 lt)));
}
