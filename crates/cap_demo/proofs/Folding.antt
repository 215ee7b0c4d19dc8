-- Loops that go through a list with what they have so far.
use Rattle.std.proofs.Common.{◌≡◌, ℕ, ◌+◌, ◌≤◌, ◌<◌, List, length, get_or, drop, sym, ap, ◌∙◌}
use Rattle.std.specs.Prelude.{fold}
use Rattle.std.proofs.lemmas.List.{drop_more, drop_all}

-- a step over what is left
pub fold_more : {A X : Type 0} (f : A → X → A) (a b total : A) (xs : List X) (i : ℕ) (d : X) → i < length xs → b ≡ f a (get_or xs i d) → fold f a (drop i xs) ≡ total → fold f b (drop (i + 1) xs) ≡ total
fold_more f a b total xs i d lt e so_far = ap (λ c. fold f c (drop (i + 1) xs)) e ∙ sym (ap (fold f a) (drop_more xs i d lt)) ∙ so_far

-- nothing is left
pub fold_done : {A X : Type 0} (f : A → X → A) (a total : A) (xs : List X) (i : ℕ) → length xs ≤ i → fold f a (drop i xs) ≡ total → a ≡ total
fold_done f a total xs i le so_far = sym (ap (fold f a) (drop_all i xs le)) ∙ so_far
