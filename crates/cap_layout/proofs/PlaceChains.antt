-- Checks of ends, one after another, and the value that they lead to.
use Rattle.std.proofs.Common.{◌≡◌, ℕ, List, [], ◌∷◌, ◌++◌, Result, Ok, Err, refl, sym, ap, ◌∙◌}
use Rattle.cap_base.specs.Steps.{◌>>=◌, ◌>>◌, steps, each}
use Rattle.cap_base.specs.declared.refusal.Refusal.{Refusal}
use Rattle.cap_layout.specs.Laid.{ends_low}

-- the ends pass in order, and then this is the value
abbrev pub Passes : {A : Type 0} → Result A Refusal → List ℕ → A → Type 0
Passes r checked value = r ≡ (each ends_low checked >> Ok value)

each_cons : (e : ℕ) (es : List ℕ) → each ends_low (e ∷ es) ≡ (ends_low e >> each ends_low es)
each_cons e es = by_case (ends_low e)
  where
    by_case : (r : Result (Unit {0}) Refusal) → (r >>= (λ b. steps (λ _ x. ends_low x) b es)) ≡ (r >> each ends_low es)
    by_case (Ok x) = refl
    by_case (Err e) = refl

then_assoc : {B : Type 0} (r s : Result (Unit {0}) Refusal) (t : Result B Refusal) → ((r >> s) >> t) ≡ (r >> (s >> t))
then_assoc (Ok x) s t = refl
then_assoc (Err e) s t = refl

then_bind : {A B : Type 0} (r : Result (Unit {0}) Refusal) (s : Result A Refusal) (f : A → Result B Refusal) → ((r >> s) >>= f) ≡ (r >> (s >>= f))
then_bind (Ok x) s f = refl
then_bind (Err e) s f = refl

each_append : (xs ys : List ℕ) → each ends_low (xs ++ ys) ≡ (each ends_low xs >> each ends_low ys)
each_append [] ys = refl
each_append (x ∷ xs) ys =
    each_cons x (xs ++ ys) ∙ ap (λ r. ends_low x >> r) (each_append xs ys) ∙ sym (then_assoc (ends_low x) (each ends_low xs) (each ends_low ys))
    ∙ ap (λ r. r >> each ends_low ys) (sym (each_cons x xs))

-- a value without a check
pub passes_none : {A : Type 0} (value : A) → Passes (Ok value) [] value
passes_none value = refl

-- one end
pub passes_one : {A : Type 0} (end : ℕ) (value : A) → Passes (ends_low end >> Ok value) (end ∷ []) value
passes_one end value =
    ap (λ r. r >> Ok value) (sym (each_cons end [] ∙ last (ends_low end)))
  where
    last : (r : Result (Unit {0}) Refusal) → (r >> Ok tt) ≡ r
    last (Ok tt) = refl
    last (Err e) = refl

-- one chain after another
pub passes_then : {A B : Type 0} (r : Result A Refusal) (f : A → Result B Refusal) (xs ys : List ℕ) (value : A) (next : B) → Passes r xs value → Passes (f value) ys next → Passes (r >>= f) (xs ++ ys) next
passes_then r f xs ys value next first second =
    ap (λ r. r >>= f) first ∙ then_bind (each ends_low xs) (Ok value) f ∙ ap (λ r. each ends_low xs >> r) second
    ∙ sym (then_assoc (each ends_low xs) (each ends_low ys) (Ok next)) ∙ ap (λ r. r >> Ok next) (sym (each_append xs ys))
