-- The pieces of a class.
use Rattle.std.proofs.Common.{◌≡◌, Bool, true, false, not, cond, ◌&&◌, ◌||◌, List, [], ◌∷◌, filter, Result, Ok, Err, refl, sym, ap, ◌∙◌}
use Rattle.std.specs.List.{list_any}
use Rattle.std.specs.Prelude.{◌==◌}
use Rattle.cap_elf.specs.declared.records.Class.{Class}
use Rattle.cap_elf.specs.Classes.{same_class}
use Rattle.cap_layout.specs.declared.piece.Piece.{Piece}
use Rattle.cap_base.specs.Steps.{◌>>=◌, steps}
use Rattle.cap_base.specs.declared.refusal.Refusal.{Refusal}
use Rattle.cap_layout.specs.Places.{of_class}
use Rattle.cap_layout.specs.Running.{Placed, with_piece, with_one, with_class}
use Rattle.cap_layout.specs.Segments.{has_class, has_class_bytes}

-- a class that has bytes has a piece
pub has_class_from_bytes : (class : Class) (pieces : List Piece) → has_class_bytes class pieces ≡ true → has_class class pieces ≡ true
has_class_from_bytes class [] h = h
has_class_from_bytes class (p ∷ ps) h = step (same_class p.class class) (not (p.size == 0)) (has_class_bytes class ps) (has_class class ps) (has_class_from_bytes class ps) h
  where
    step : (a b c d : Bool) → (c ≡ true → d ≡ true) → ((a && b) || c) ≡ true → (a || d) ≡ true
    step true b c d f h = refl
    step false b c d f h = f h

-- ---- what is asked of a class is asked of its pieces alone
any_both : {X : Type 0} (p q : X → Bool) (xs : List X) → list_any (λ x. p x && q x) xs ≡ list_any q (filter p xs)
any_both p q [] = refl
any_both p q (x ∷ xs) = by (p x) (any_both p q xs)
  where
    by : (b : Bool) → list_any (λ y. p y && q y) xs ≡ list_any q (filter p xs) → ((b && q x) || list_any (λ y. p y && q y) xs) ≡ list_any q (cond b (x ∷ filter p xs) (filter p xs))
    by true rest = ap (λ c. q x || c) rest
    by false rest = rest

any_some : {X : Type 0} (p : X → Bool) (xs : List X) → list_any p xs ≡ list_any (λ _. true) (filter p xs)
any_some p [] = refl
any_some p (x ∷ xs) = by (p x) (any_some p xs)
  where
    by : (b : Bool) → list_any p xs ≡ list_any (λ _. true) (filter p xs) → (b || list_any p xs) ≡ list_any (λ _. true) (cond b (x ∷ filter p xs) (filter p xs))
    by true rest = refl
    by false rest = rest

pub has_alone : (class : Class) (xs ys : List Piece) → of_class class xs ≡ of_class class ys → has_class class xs ≡ has_class class ys
has_alone class xs ys e =
    any_some (λ (p : Piece). same_class p.class class) xs ∙ ap (list_any (λ _. true)) e ∙ sym (any_some (λ (p : Piece). same_class p.class class) ys)

pub bytes_alone : (class : Class) (xs ys : List Piece) → of_class class xs ≡ of_class class ys → has_class_bytes class xs ≡ has_class_bytes class ys
bytes_alone class xs ys e =
    let own = λ (p : Piece). same_class p.class class in
    let some = λ (p : Piece). not (p.size == 0) in
    any_both own some xs ∙ ap (list_any some) e ∙ sym (any_both own some ys)

same_then : {A B : Type 0} (r : Result A Refusal) (f g : A → Result B Refusal) → ((a : A) → f a ≡ g a) → (r >>= f) ≡ (r >>= g)
same_then (Ok a) f g h = h a
same_then (Err e) f g h = refl

of_its_own : (class : Class) (ps : List Piece) (at : Placed) → steps (with_one class) at ps ≡ steps with_piece at (of_class class ps)
of_its_own class [] at = refl
of_its_own class (p ∷ ps) at = by (same_class p.class class) (of_its_own class ps)
  where
    by : (b : Bool) → ((a : Placed) → steps (with_one class) a ps ≡ steps with_piece a (of_class class ps)) → (cond b (with_piece at p) (Ok at) >>= λ a. steps (with_one class) a ps) ≡ steps with_piece at (cond b (p ∷ of_class class ps) (of_class class ps))
    by true rest = same_then (with_piece at p) (λ a. steps (with_one class) a ps) (λ a. steps with_piece a (of_class class ps)) rest
    by false rest = rest at

pub class_alone : (class : Class) (xs ys : List Piece) (at : Placed) → of_class class xs ≡ of_class class ys → with_class class xs at ≡ with_class class ys at
unfolding with_class
class_alone class xs ys at e = of_its_own class xs at ∙ ap (steps with_piece at) e ∙ sym (of_its_own class ys at)
