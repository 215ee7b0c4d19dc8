-- What was gathered of loaded objects, one after another, and why nothing was.
use Rattle.std.proofs.Common.{◌≡◌, ℕ, suc, zero, ◌+◌, ◌<◌, ◌≤◌, ◌⊎◌, inl, inr, ⊎_elim, List, [], ◌∷◌, ◌++◌, length, get_or, refl, ap, sym, subst, arith}
use Rattle.std.specs.Prelude.{All, Result, Ok, Err}
use Rattle.std.specs.List.{AllZip, range_with_len}
use Rattle.std.proofs.lemmas.List.Elements.{All-nil, All-cons}
use Rattle.cap_base.specs.Steps.{◌>>=◌, gather}
use Rattle.cap_session.specs.declared.refusal.OpenRefusal.{OpenRefusal}
use Rattle.cap_session.specs.Loading.{Loaded, refusal_as}
use Rattle.cap_session.proofs.Begins.{bind_ok, ok_same}

pub as-ok : {A E F : Type 0} (view : E → F) (r : Result A E) (x : A) → refusal_as view r ≡ Ok x → r ≡ Ok x
as-ok view (Ok y) x h = let same : y ≡ x = cc in ap Ok same
as-ok view (Err e) x h = absurd cc

pub as-err : {A E F : Type 0} (view : E → F) (r : Result A E) (f : F) → refusal_as view r ≡ Err f → (e : E) × (r ≡ Err e) × (f ≡ view e)
as-err view (Ok y) f h = absurd cc
as-err view (Err e) f h = (e, refl, (let same : view e ≡ f = cc in sym same))

-- a chain is refused by its first step, or by the rest
pub bind-err : {A B E : Type 0} (r : Result A E) (f : A → Result B E) (e : E) → (r >>= f) ≡ Err e → (r ≡ Err e) ⊎ ((x : A) × (r ≡ Ok x) × (f x ≡ Err e))
bind-err (Ok x) f e h = inr (x, refl, h)
bind-err (Err e') f e h = inl (let same : e' ≡ e = cc in ap Err same)

pub gathered : {Y : Type 0} (R : Loaded → Y → Type 0) (f : ℕ → Result Y OpenRefusal) (a : ℕ) (objects : List Loaded) (ys : List Y) → gather f (range_with_len a (length objects)) ≡ Ok ys
    → ((k : ℕ) (d : Loaded) (y : Y) → k < length objects → f (a + k) ≡ Ok y → R (get_or objects k d) y) → AllZip R objects ys
gathered {Y} R f a [] ys e h = subst (λ (zs : List Y). AllZip R [] zs) (ok_same [] ys e) tt
gathered {Y} R f a (o ∷ objects) ys e h =
    let first = bind_ok (f a) (λ y. gather f (range_with_len (a + 1) (length objects)) >>= λ zs. Ok (y ∷ zs)) ys e in
    let rest = bind_ok (gather f (range_with_len (a + 1) (length objects))) (λ zs. Ok (first.0 ∷ zs)) ys first.2 in
    let at : a ≡ a + 0 = omega arith in
    let here : f (a + 0) ≡ Ok first.0 = subst (λ (i : ℕ). f i ≡ Ok first.0) at first.1 in
    let later : AllZip R objects rest.0 = gathered R f (a + 1) objects rest.0 rest.1 (λ k d y lt is.
    let next : (a + 1) + k ≡ a + suc k = omega arith in
    h (suc k) d y (omega (arith, lt)) (subst (λ (i : ℕ). f i ≡ Ok y) next is)) in
    subst (λ (zs : List Y). AllZip R (o ∷ objects) zs) (ok_same (first.0 ∷ rest.0) ys rest.2) (h 0 o first.0 (omega arith) here, later)

pub zip-both : {X Y : Type 0} (R : X → Y → Type 0) (xs xs' : List X) (ys ys' : List Y) → AllZip R xs ys → AllZip R xs' ys' → AllZip R (xs ++ xs') (ys ++ ys')
zip-both R [] xs' [] ys' h g = g
zip-both R [] xs' (y ∷ ys) ys' h g = absurd h
zip-both R (x ∷ xs) xs' [] ys' h g = absurd h
zip-both R (x ∷ xs) xs' (y ∷ ys) ys' h g = (h.0, zip-both R xs xs' ys ys' h.1 g)

pub zip-right : {X Y : Type 0} (P : Y → Type 0) (xs : List X) (ys : List Y) → AllZip (λ x y. P y) xs ys → All P ys
zip-right P [] [] h = All-nil P
zip-right P [] (y ∷ ys) h = absurd h
zip-right P (x ∷ xs) [] h = absurd h
zip-right P (x ∷ xs) (y ∷ ys) h = All-cons P y ys h.0 (zip-right P xs ys h.1)

-- the first that is refused, of numbers from one on
pub refused-at : {Y E : Type 0} (f : ℕ → Result Y E) (a n : ℕ) (e : E) → gather f (range_with_len a n) ≡ Err e → (i : ℕ) × (a ≤ i) × (i < a + n) × (f i ≡ Err e)
refused-at f a zero e h = absurd cc
refused-at f a (suc n) e h =
    ⊎_elim (λ here. (a, omega arith, omega arith, here))
    (λ first. ⊎_elim
    (λ rest. let at = refused-at f (a + 1) n e rest in let from = at.1 in let to = at.2 in (at.0, omega (arith, from), omega (arith, to), at.3))
    (λ last. absurd (let none = last.2 in cc))
    (bind-err (gather f (range_with_len (a + 1) n)) (λ ys. Ok (first.0 ∷ ys)) e first.2))
    (bind-err (f a) (λ y. gather f (range_with_len (a + 1) n) >>= λ ys. Ok (y ∷ ys)) e h)
