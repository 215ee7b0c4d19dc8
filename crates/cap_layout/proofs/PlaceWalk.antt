-- Walks along lists whose steps may refuse, in calls over several files.
use Rattle.std.proofs.Common.{◌≡◌, ◌⊎◌, inl, inr, ℕ, ◌+◌, ◌<◌, ◌≤◌, List, ◌∷◌, length, get_or, drop, Result, Ok, Err, sym, ap, ◌∙◌, ⊎_elim}
use Rattle.cap_base.specs.declared.refusal.Refusal.{Refusal}
use Rattle.cap_base.specs.declared.refusal.Refusal.TheVariants.{NoMemory}
use Rattle.std.specs.List.{enumerate_from}
use Rattle.std.proofs.lemmas.List.{drop_more, drop_all}
use Rattle.cap_base.specs.Steps.{◌>>=◌, steps, each}
use Rattle.cap_base.proofs.Walk.{steps_fault}

-- a step that refuses, or for which there is no memory
pub yields_stop : {A X : Type 0} (f : A → X → Result A Refusal) (a : A) (xs : List X) (i : ℕ) (d : X) (e : Refusal) (total : Result A Refusal) → i < length xs → (e ≡ NoMemory) ⊎ (f a (get_or xs i d) ≡ Err e) → steps f a (drop i xs) ≡ total → (e ≡ NoMemory) ⊎ (total ≡ Err e)
yields_stop f a xs i d e total lt h so_far =
    ⊎_elim (λ (m : e ≡ NoMemory). inl m) (λ (r : f a (get_or xs i d) ≡ Err e). inr (steps_fault f a xs i d e total lt r so_far)) h

-- ---- a check of each file, with its number
module _ {X : Type 0} (f : ℕ × X → Result (Unit {0}) Refusal) (xs : List X) (i : ℕ) (total : Result (Unit {0}) Refusal) where
  front : (d : X) → i < length xs → enumerate_from i (drop i xs) ≡ (i, get_or xs i d) ∷ enumerate_from (i + 1) (drop (i + 1) xs)
  front d lt = ap (enumerate_from i) (drop_more xs i d lt)

  -- a file that passes
  pub each_more : (d : X) → i < length xs → f (i, get_or xs i d) ≡ Ok tt → each f (enumerate_from i (drop i xs)) ≡ total → each f (enumerate_from (i + 1) (drop (i + 1) xs)) ≡ total
  each_more d lt e so_far =
      sym (ap (each f) (front d lt) ∙ ap (λ r. r >>= λ c. steps (λ _ x. f x) c (enumerate_from (i + 1) (drop (i + 1) xs))) e) ∙ so_far

  -- one that is refused
  pub each_stop : (d : X) (r : Refusal) → i < length xs → f (i, get_or xs i d) ≡ Err r → each f (enumerate_from i (drop i xs)) ≡ total → total ≡ Err r
  each_stop d r lt e so_far =
      sym so_far ∙ ap (each f) (front d lt) ∙ ap (λ r. r >>= λ c. steps (λ _ x. f x) c (enumerate_from (i + 1) (drop (i + 1) xs))) e

  -- no file is left
  pub each_done : length xs ≤ i → each f (enumerate_from i (drop i xs)) ≡ total → total ≡ Ok tt
  each_done le so_far = sym so_far ∙ ap (λ ys. each f (enumerate_from i ys)) (drop_all i xs le)
