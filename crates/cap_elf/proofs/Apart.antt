-- What holds of each two items of a list holds of each two of those that pass a test.
use Rattle.std.proofs.Common.{◌≡◌, ◌<◌, Bool, true, cond, List, [], ◌∷◌, length, map, get_or, refl, sym, subst, ap, ◌∙◌, arith}
use Rattle.std.specs.Prelude.{filter, AllPairs}
use Rattle.std.proofs.lemmas.Bool.{both_ways, cond_both, cond-false, false_from_ne_true}
use Rattle.std.proofs.lemmas.List.{get_or-map, length-map}
use Rattle.std.proofs.lemmas.List.Kept.{AllPairs-filter}

pairs_below : {X Y : Type 0} (R : Y → Y → Type 0) (f : X → Y) (xs : List X) → AllPairs R (map f xs) → AllPairs (λ a b. R (f a) (f b)) xs
pairs_below R f xs pairs = λ i j d lt inside.
    let first : get_or (map f xs) i (f d) ≡ f (get_or xs i d) = get_or-map f xs i d (f d) (omega arith) in
    let second : get_or (map f xs) j (f d) ≡ f (get_or xs j d) = get_or-map f xs j d (f d) inside in
    let both : R (get_or (map f xs) i (f d)) (get_or (map f xs) j (f d)) = pairs i j (f d) lt (omega (arith, length-map xs f)) in
    subst (λ a. R a (f (get_or xs j d))) first (subst (λ b. R (get_or (map f xs) i (f d)) b) second both)

pairs_above : {X Y : Type 0} (R : Y → Y → Type 0) (f : X → Y) (xs : List X) → AllPairs (λ a b. R (f a) (f b)) xs → AllPairs R (map f xs)
pairs_above R f [] pairs = λ i j e lt inside. absurd (omega arith)
pairs_above R f (x ∷ xs) pairs = λ i j e lt inside.
    let len = length-map (x ∷ xs) f in
    let j_inside : j < length (x ∷ xs) = omega (arith, inside, len) in
    let first : get_or (map f (x ∷ xs)) i e ≡ f (get_or (x ∷ xs) i x) = get_or-map f (x ∷ xs) i x e (omega (arith, lt, j_inside)) in
    let second : get_or (map f (x ∷ xs)) j e ≡ f (get_or (x ∷ xs) j x) = get_or-map f (x ∷ xs) j x e j_inside in
    subst (λ a. R a (get_or (map f (x ∷ xs)) j e)) (sym first) (subst (λ b. R (f (get_or (x ∷ xs) i x)) b) (sym second) (pairs i j x lt j_inside))

filter_again : {X : Type 0} (p q : X → Bool) → ((x : X) → p x ≡ true → q x ≡ true) → (xs : List X) → filter p (filter q xs) ≡ filter p xs
filter_again p q within [] = refl
filter_again p q within (x ∷ xs) =
    let rest = filter_again p q within xs in
    cond_both (q x) (x ∷ filter q xs) (filter q xs) (λ l. filter p l ≡ cond (p x) (x ∷ filter p xs) (filter p xs))
    (λ _. ap (λ l. cond (p x) (x ∷ l) l) rest)
    (λ fails. rest ∙ sym (cond-false (p x) (x ∷ filter p xs) (filter p xs) (false_from_ne_true (p x) (λ passes. both_ways (q x) fails (within x passes)))))

pub fewer_apart : {X Y : Type 0} (R : Y → Y → Type 0) (f : X → Y) (p q : X → Bool) (xs : List X) → ((x : X) → p x ≡ true → q x ≡ true) → AllPairs R (map f (filter q xs)) → AllPairs R (map f (filter p xs))
fewer_apart R f p q xs within pairs =
    pairs_above R f (filter p xs)
    (subst (AllPairs (λ a b. R (f a) (f b))) (filter_again p q within xs)
    (AllPairs-filter (λ a b. R (f a) (f b)) p (filter q xs) (pairs_below R f (filter q xs) pairs)))
