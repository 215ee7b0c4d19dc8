-- What follows of steps that passed.
use Rattle.std.proofs.Common.{◌≡◌, ℕ, zero, suc, ◌+◌, ◌≤◌, Bool, true, false, not, List, [], ◌∷◌, ◌++◌, length, Result, Ok, Err, refl, sym, subst, append_assoc, append-nil, arith}
use Rattle.std.specs.Prelude.{nat_le}
use Rattle.std.proofs.lemmas.Bool.{leb-true, not-false}
use Rattle.cap_base.specs.declared.check.Check.{Check}
use Rattle.cap_base.specs.declared.check.Check.TheVariants.{ImageEnd}
use Rattle.cap_base.specs.declared.refusal.Fault.{Fault}
use Rattle.cap_base.specs.Steps.{◌>>=◌, ◌>>◌, refuse, steps}
use Rattle.cap_image.specs.Header.{reaches}
use Rattle.cap_image.specs.Records.{repeated}

-- both gave a value
pub bind_passed : {E A B : Type 0} (r : Result A E) (f : A → Result B E) (y : B) → (r >>= f) ≡ Ok y → (x : A) × (r ≡ Ok x) × (f x ≡ Ok y)
bind_passed (Ok x) f y h = (x, refl, h)
bind_passed (Err e) f y h = absurd (cc)

-- the check passed, and what followed gave the value
pub check_passed : {B : Type 0} (fails : Bool) (check : Check) (at : ℕ) (r : Result B Fault) (y : B) → (refuse fails check at >> r) ≡ Ok y → (fails ≡ false) × (r ≡ Ok y)
check_passed true check at r y h = absurd (cc)
check_passed false check at r y h = (refl, h)

-- the place is reached
pub reach_passed : {B : Type 0} (bytes : List ℕ) (place : ℕ) (r : Result B Fault) (y : B) → (reaches bytes place >> r) ≡ Ok y → (place ≤ length bytes) × (r ≡ Ok y)
reach_passed bytes place r y h =
    let passed = check_passed (not (nat_le place (length bytes))) ImageEnd (length bytes) r y h in
    (leb-true place (length bytes) (not-false (nat_le place (length bytes)) passed.0), passed.1)

-- what each step keeps, all keep
pub repeated_keep : {E A : Type 0} (P : ℕ → A → Type 0) (f : A → Result A E) → ((k : ℕ) (a b : A) → P k a → f a ≡ Ok b → P (suc k) b)
    → (n k : ℕ) (a b : A) → P k a → repeated f n a ≡ Ok b → P (n + k) b
repeated_keep P f keep zero k a b h e =
    let same : a ≡ b = cc in
    let none : k ≡ zero + k = omega arith in
    subst (λ (m : ℕ). P m b) none (subst (P k) same h)
repeated_keep P f keep (suc n) k a b h e =
    let one = bind_passed (f a) (λ c. repeated f n c) b e in
    let count : n + suc k ≡ suc n + k = omega arith in
    subst (λ (m : ℕ). P m b) count (repeated_keep P f keep n (suc k) one.0 b (keep k a one.0 h one.1) one.2)

pub steps_keep : {E A X : Type 0} (P : List X → A → Type 0) (f : A → X → Result A E) → ((done : List X) (x : X) (a b : A) → P done a → f a x ≡ Ok b → P (done ++ x ∷ []) b)
    → (xs done : List X) (a b : A) → P done a → steps f a xs ≡ Ok b → P (done ++ xs) b
steps_keep P f keep [] done a b h e =
    let same : a ≡ b = cc in
    subst (λ ds. P ds b) (sym (append-nil done)) (subst (P done) same h)
steps_keep P f keep (x ∷ xs) done a b h e =
    let one = bind_passed (f a x) (λ c. steps f c xs) b e in
    subst (λ ds. P ds b) (append_assoc done (x ∷ []) xs) (steps_keep P f keep xs (done ++ x ∷ []) one.0 b (keep done x a one.0 h one.1) one.2)
