-- Loops over lists: folds over what is left, and checks of each item.
use Rattle.std.proofs.Common.{◌≡◌, ℕ, ◌+◌, ◌<◌, ◌≤◌, Bool, cond, not, List, [], ◌∷◌, length, map, filter, get_or, drop, Result, inl, inr, refl, sym, ap, ◌∙◌}
use Rattle.std.specs.Prelude.{fold}
use Rattle.std.specs.List.{flat_map}
use Rattle.std.proofs.lemmas.Bool.{cases_Bool}
use Rattle.std.proofs.lemmas.List.{drop_more, drop_all}
use Rattle.std.proofs.lemmas.List.Sums.{fold-append}
use Rattle.cap_base.specs.Steps.{◌>>=◌, each}

-- a step of a fold over what is left
pub fold_more : {A X : Type 0} (f : A → X → A) (a b total : A) (xs : List X) (i : ℕ) (d : X) → i < length xs → b ≡ f a (get_or xs i d) → fold f a (drop i xs) ≡ total → fold f b (drop (i + 1) xs) ≡ total
fold_more f a b total xs i d lt e so_far =
    ap (λ c. fold f c (drop (i + 1) xs)) e ∙ sym (ap (fold f a) (drop_more xs i d lt)) ∙ so_far

-- nothing is left
pub fold_done : {A X : Type 0} (f : A → X → A) (a total : A) (xs : List X) (i : ℕ) → length xs ≤ i → fold f a (drop i xs) ≡ total → a ≡ total
fold_done f a total xs i le so_far = sym (ap (fold f a) (drop_all i xs le)) ∙ so_far

-- items that are passed over
pub fold-filter : {A X : Type 0} (f : A → X → A) (out : X → Bool) (a : A) (xs : List X) → fold (λ b x. cond (out x) b (f b x)) a xs ≡ fold f a (filter (λ x. not (out x)) xs)
fold-filter f out a [] = refl
fold-filter f out a (x ∷ xs) =
    let rest = filter (λ y. not (out y)) xs in
    elim (cases_Bool (out x)) [
      | inl e ↦
          ap (λ b. fold (λ b x. cond (out x) b (f b x)) (cond b a (f a x)) xs) e
          ∙ fold-filter f out a xs
          ∙ sym (ap (λ b. fold f a (cond (not b) (x ∷ rest) rest)) e)
      | inr e ↦
          ap (λ b. fold (λ b x. cond (out x) b (f b x)) (cond b a (f a x)) xs) e
          ∙ fold-filter f out (f a x) xs
          ∙ sym (ap (λ b. fold f a (cond (not b) (x ∷ rest) rest)) e)
    ]

-- a fold over lists that are joined
pub fold-flat_map : {A X Y : Type 0} (f : A → X → A) (g : A → Y → A) (h : Y → List X) → ((a : A) (y : Y) → g a y ≡ fold f a (h y)) → (a : A) (ys : List Y) → fold g a ys ≡ fold f a (flat_map h ys)
fold-flat_map f g h same a [] = refl
fold-flat_map f g h same a (y ∷ ys) =
    ap (λ b. fold g b ys) (same a y) ∙ fold-flat_map f g h same (fold f a (h y)) ys ∙ sym (fold-append f a (h y) (flat_map h ys))

-- two checks that agree
pub each-same : {E X : Type 0} (f g : X → Result (Unit {0}) E) → ((x : X) → f x ≡ g x) → (xs : List X) → each f xs ≡ each g xs
each-same f g same [] = refl
each-same f g same (x ∷ xs) = ap (λ r. r >>= λ _. each f xs) (same x) ∙ ap (λ r. g x >>= λ _. r) (each-same f g same xs)

-- a check of what each item gives
pub each-map : {E X Y : Type 0} (f : Y → Result (Unit {0}) E) (h : X → Y) (xs : List X) → each f (map h xs) ≡ each (λ x. f (h x)) xs
each-map f h [] = refl
each-map f h (x ∷ xs) = ap (λ r. f (h x) >>= λ _. r) (each-map f h xs)
