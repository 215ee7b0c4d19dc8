-- Lists of records, grown by one, and lists in step.
use Rattle.std.specs.List.{flat_map, zip}
use Rattle.std.proofs.Common.{◌≡◌, ℕ, ◌+◌, ◌<◌, List, [], ◌∷◌, ◌++◌, length, get_or, take, refl, ap, ◌∙◌, append-nil, arith}
use Rattle.std.proofs.lemmas.List.{take_more}
use Rattle.std.proofs.lemmas.Grind.{flat_map-append}

-- what one more item gives, behind what the items before it give
pub flat_map_more : {X A : Type 0} (f : X → List A) (xs : List X) (i : ℕ) (d : X) → i < length xs → flat_map f (take (i + 1) xs) ≡ flat_map f (take i xs) ++ f (get_or xs i d)
flat_map_more f xs i d lt = ap (flat_map f) (take_more xs i d lt) ∙ flat_map-append f (take i xs) (get_or xs i d ∷ []) ∙ ap (λ ys. flat_map f (take i xs) ++ ys) (append-nil (f (get_or xs i d)))

-- two lists in step end where one of them ends
pub no_firsts : {X Y : Type 0} (xs : List X) (ys : List Y) → length xs ≡ 0 → zip xs ys ≡ []
no_firsts [] ys h = refl
no_firsts (x ∷ xs) ys h = absurd (omega (arith, h))

pub no_seconds : {X Y : Type 0} (xs : List X) (ys : List Y) → length ys ≡ 0 → zip xs ys ≡ []
no_seconds [] ys h = refl
no_seconds (x ∷ xs) [] h = refl
no_seconds (x ∷ xs) (y ∷ ys) h = absurd (omega (arith, h))
