-- What an answer says: of its value, and of its refusal.
use Rattle.std.proofs.Common.{◌≡◌, Bool, true, false, Option, Some, None, Result, Ok, Err, refl, subst}
use Rattle.std.specs.Prelude.{if◌then◌else◌}
use Rattle.cap_base.specs.Steps.{◌>>=◌, ◌>>◌}
use Rattle.cap_reloc.specs.declared.refusal.RelocRefusal.{RelocRefusal}
use Rattle.cap_reloc.specs.Refusing.{refuse, or_refuse}

pub record Says {X : Type 0} (P : X → Type 0) (Q : RelocRefusal → Type 0) (answer : Result X RelocRefusal) : Type 0 where
  pub ok : (x : X) → answer ≡ Ok x → P x
  pub err : (e : RelocRefusal) → answer ≡ Err e → Q e

pub says_ok : {X : Type 0} (P : X → Type 0) (Q : RelocRefusal → Type 0) (x : X) → P x → Says P Q (Ok x)
says_ok {X} P Q x h = record {
  ok = λ y is. let same : x ≡ y = cc in subst P same h;
  err = λ e is. cc;
}

pub says_err : {X : Type 0} (P : X → Type 0) (Q : RelocRefusal → Type 0) (e : RelocRefusal) → Q e → Says P Q (Err e)
says_err P Q e h = record {
  ok = λ y is. cc;
  err = λ f is. let same : e ≡ f = cc in subst Q same h;
}

pub says_refuse : {X : Type 0} (P : X → Type 0) (Q : RelocRefusal → Type 0) (b : Bool) (e : RelocRefusal) (r : Result X RelocRefusal) → (b ≡ true → Q e) → (b ≡ false → Says P Q r) → Says P Q (refuse b e >> r)
says_refuse P Q true e r h k = says_err P Q e (h refl)
says_refuse P Q false e r h k = k refl

pub says_or : {A X : Type 0} (P : X → Type 0) (Q : RelocRefusal → Type 0) (o : Option A) (e : RelocRefusal) (f : A → Result X RelocRefusal) → Q e → ((a : A) → o ≡ Some a → Says P Q (f a)) → Says P Q (or_refuse o e >>= f)
says_or P Q None e f h k = says_err P Q e h
says_or P Q (Some a) e f h k = k a refl

pub says_bind : {A X : Type 0} (O : A → Type 0) (P : X → Type 0) (Q : RelocRefusal → Type 0) (r : Result A RelocRefusal) (f : A → Result X RelocRefusal) → Says O Q r → ((a : A) → O a → Says P Q (f a)) → Says P Q (r >>= f)
says_bind O P Q (Ok a) f h k = k a (h.ok a refl)
says_bind O P Q (Err e) f h k = says_err P Q e (h.err e refl)

pub says_if : {X : Type 0} (P : X → Type 0) (Q : RelocRefusal → Type 0) (b : Bool) (r s : Result X RelocRefusal) → (b ≡ true → Says P Q r) → (b ≡ false → Says P Q s) → Says P Q (if b then r else s)
says_if P Q true r s h k = h refl
says_if P Q false r s h k = k refl
