-- Loops that search a list for an item that passes a test.
use Rattle.std.specs.List.{list_any}
use Rattle.std.proofs.Common.{Bool, true, false, ◌||◌, ◌≡◌, ℕ, ◌+◌, ◌≤◌, ◌<◌, List, [], ◌∷◌, length, get_or, drop, map, refl, sym, ap, ◌∙◌}
use Rattle.std.proofs.lemmas.List.{drop_more, drop_all}

-- a test of what a function gives
pub any_map : {X Y : Type 0} (p : Y → Bool) (f : X → Y) (xs : List X) → list_any p (map f xs) ≡ list_any (λ x. p (f x)) xs
any_map p f [] = refl
any_map p f (x ∷ xs) = ap (λ b. p (f x) || b) (any_map p f xs)

-- an item that fails the test
pub any_skip : {X : Type 0} (p : X → Bool) (xs : List X) (i : ℕ) (d : X) (r : Bool) → i < length xs → p (get_or xs i d) ≡ false → list_any p (drop i xs) ≡ r → list_any p (drop (i + 1) xs) ≡ r
any_skip p xs i d r lt e so_far = ap (λ b. b || list_any p (drop (i + 1) xs)) (sym e) ∙ sym (ap (list_any p) (drop_more xs i d lt)) ∙ so_far

-- an item that passes it
pub any_hit : {X : Type 0} (p : X → Bool) (xs : List X) (i : ℕ) (d : X) (r : Bool) → i < length xs → p (get_or xs i d) ≡ true → list_any p (drop i xs) ≡ r → r ≡ true
any_hit p xs i d r lt e so_far = sym so_far ∙ ap (list_any p) (drop_more xs i d lt) ∙ ap (λ b. b || list_any p (drop (i + 1) xs)) e

-- no item is left
pub any_none : {X : Type 0} (p : X → Bool) (xs : List X) (i : ℕ) (r : Bool) → length xs ≤ i → list_any p (drop i xs) ≡ r → r ≡ false
any_none p xs i r le so_far = sym so_far ∙ ap (list_any p) (drop_all i xs le)
