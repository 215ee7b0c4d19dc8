-- What follows of steps that passed.
use Rattle.std.proofs.Common.{◌≡◌, ℕ, ◌+◌, length, ap, sym, arith, Bool, true, false, List, [], ◌∷◌, Option, Some, None, Result, Ok, Err, refl, subst, cond}
use Rattle.std.specs.Prelude.{ok_or, find, IfSome, All}
use Rattle.std.specs.Option.{option_map}
use Rattle.std.specs.List.{list_any}
use Rattle.std.proofs.lemmas.Bool.{or_left, or_right}
use Rattle.std.proofs.lemmas.List.Elements.{All-head, All-tail}
use Rattle.cap_base.specs.declared.check.Check.{Check}
use Rattle.cap_base.specs.declared.refusal.Fault.{Fault}
use Rattle.cap_base.specs.Steps.{◌>>=◌, ◌>>◌, refuse, steps}

-- both gave a value
pub bind_passed : {E A B : Type 0} (r : Result A E) (f : A → Result B E) (y : B) → (r >>= f) ≡ Ok y → (x : A) × (r ≡ Ok x) × (f x ≡ Ok y)
bind_passed (Ok x) f y h = (x, refl, h)
bind_passed (Err e) f y h = absurd (cc)

-- the check passed, and what followed gave the value
pub check_passed : {B : Type 0} (fails : Bool) (check : Check) (at : ℕ) (r : Result B Fault) (y : B) → (refuse fails check at >> r) ≡ Ok y → (fails ≡ false) × (r ≡ Ok y)
check_passed true check at r y h = absurd (cc)
check_passed false check at r y h = (refl, h)

-- the check passed
pub refused_passed : (fails : Bool) (check : Check) (at : ℕ) (u : Unit {0}) → refuse fails check at ≡ Ok u → fails ≡ false
refused_passed true check at u h = absurd (cc)
refused_passed false check at u h = refl

pub then_passed : {E B : Type 0} (u : Result (Unit {0}) E) (r : Result B E) (y : B) → (u >> r) ≡ Ok y → (u ≡ Ok tt) × (r ≡ Ok y)
then_passed (Ok v) r y h = (refl, h)
then_passed (Err e) r y h = absurd (cc)

pub some_passed : {E A : Type 0} (o : Option A) (e : E) (x : A) → ok_or o e ≡ Ok x → o ≡ Some x
some_passed (Some y) e x h = cc
some_passed None e x h = absurd (cc)

pub map_passed : {A B : Type 0} (f : A → B) (o : Option A) (y : B) → option_map f o ≡ Some y → (x : A) × (o ≡ Some x) × (f x ≡ y)
map_passed f (Some x) y h = let e : f x ≡ y = cc in (x, refl, e)
map_passed f None y h = absurd (cc)

abbrev pub passing : {A : Type 0} → A → Result A Fault
passing x = Ok x

pub same_value : {A : Type 0} (x y : A) → passing x ≡ passing y → x ≡ y
same_value x y h = cc

pub if_some : {A : Type 0} (o : Option A) (P : A → Type 0) → ((x : A) → o ≡ Some x → P x) → IfSome o P
if_some (Some x) P f = f x refl
if_some None P f = tt

-- a choice between two that gave a value
pub choice_passed : {R Goal : Type 0} (b : Bool) (x y z : R) → cond b x y ≡ z → (b ≡ true → x ≡ z → Goal) → (b ≡ false → y ≡ z → Goal) → Goal
choice_passed true x y z h on_true on_false = on_true refl h
choice_passed false x y z h on_true on_false = on_false refl h

-- what each step keeps
pub steps_keep : {E A X : Type 0} (f : A → X → Result A E) (P : A → Type 0) → ((a : A) (x : X) (b : A) → P a → f a x ≡ Ok b → P b) → (a : A) (xs : List X) (b : A) → P a → steps f a xs ≡ Ok b → P b
steps_keep f P keep a [] b p h = let e : a ≡ b = cc in subst P e p
steps_keep f P keep a (x ∷ xs) b p h =
    let one = bind_passed (f a x) (λ c. steps f c xs) b h in
    steps_keep f P keep one.0 xs b (keep a x one.0 p one.1) one.2

-- what each step from an item of some kind keeps
pub steps_keep_all : {E A X : Type 0} (f : A → X → Result A E) (P : A → Type 0) (Q : X → Type 0) → ((a : A) (x : X) (b : A) → P a → Q x → f a x ≡ Ok b → P b) → (a : A) (xs : List X) (b : A) → P a → All Q xs → steps f a xs ≡ Ok b → P b
steps_keep_all f P Q keep a [] b p all h = let e : a ≡ b = cc in subst P e p
steps_keep_all f P Q keep a (x ∷ xs) b p all h =
    let one = bind_passed (f a x) (λ c. steps f c xs) b h in
    steps_keep_all f P Q keep one.0 xs b (keep a x one.0 p (All-head Q x xs all) one.1) (All-tail Q x xs all) one.2

-- where each step gives one more, there are as many more as items
pub steps_grow : {E A X : Type 0} (f : List A → X → Result (List A) E) → ((a : List A) (x : X) (b : List A) → f a x ≡ Ok b → length b ≡ length a + 1) → (a : List A) (xs : List X) (b : List A) → steps f a xs ≡ Ok b → length b ≡ length a + length xs
steps_grow f one_more a [] b h = let e : a ≡ b = cc in let same = ap length (sym e) in omega (arith, same)
steps_grow f one_more a (x ∷ xs) b h =
    let one = bind_passed (f a x) (λ c. steps f c xs) b h in
    omega (arith, one_more a x one.0 one.1, steps_grow f one_more one.0 xs b one.2)

-- what was found passes the test
pub find_passes : {X : Type 0} (p : X → Bool) (xs : List X) (x : X) → find p xs ≡ Some x → p x ≡ true
find_passes p [] x h = absurd (cc)
find_passes p (y ∷ ys) x h = choice_passed (p y) (Some y) (find p ys) (Some x) h
    (λ here same. let e : y ≡ x = cc in subst (λ z. p z ≡ true) e here)
    (λ _ later. find_passes p ys x later)

-- what was found is one of the list
pub find_all : {X : Type 0} (p : X → Bool) (P : X → Type 0) (xs : List X) (x : X) → find p xs ≡ Some x → All P xs → P x
find_all p P [] x h all = absurd (cc)
find_all p P (y ∷ ys) x h all = choice_passed (p y) (Some y) (find p ys) (Some x) h
    (λ here same. let e : y ≡ x = cc in subst P e (All-head P y ys all))
    (λ _ later. find_all p P ys x later (All-tail P y ys all))

pub find_any : {X : Type 0} (p q : X → Bool) (xs : List X) (x : X) → find p xs ≡ Some x → q x ≡ true → list_any q xs ≡ true
find_any p q [] x h t = absurd (cc)
find_any p q (y ∷ ys) x h t = choice_passed (p y) (Some y) (find p ys) (Some x) h
    (λ here same. let e : x ≡ y = cc in or_left (q y) (list_any q ys) (subst (λ z. q z ≡ true) e t))
    (λ _ later. or_right (q y) (list_any q ys) (find_any p q ys x later t))
