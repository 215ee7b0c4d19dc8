-- Steps that passed, and what then holds of a word.
use Rattle.std.proofs.Common.{◌≡◌, Bool, true, false, nat_lt, length, Result, Ok, Err, refl, arith}
use Rattle.std.proofs.lemmas.Bool.Decides.{nat_tests}
use Rattle.clap.proofs.WalkLemmas.{both}
use Rattle.clap.specs.Walk.{Text}
use Rattle.cap_base.specs.Steps.{◌>>=◌, ◌>>◌}
use Rattle.cap_base.specs.Text.{is_plain}
use Rattle.cap_session.specs.Mappings.{IsName}
use Rattle.purecap.specs.declared.faults.Failure.{Failure}
use Rattle.purecap.specs.WordRules.{is_long, is_path, refuse}

pub bind_passed : {A B : Type 0} (r : Result A Failure) (f : A → Result B Failure) (y : B) → (r >>= f) ≡ Ok y → (x : A) × (r ≡ Ok x) × (f x ≡ Ok y)
bind_passed (Ok x) f y h = (x, refl, h)
bind_passed (Err e) f y h = absurd (cc)

pub then_passed : {B : Type 0} (u : Result (Unit {0}) Failure) (r : Result B Failure) (y : B) → (u >> r) ≡ Ok y → (u ≡ Ok tt) × (r ≡ Ok y)
then_passed (Ok v) r y h = (refl, h)
then_passed (Err e) r y h = absurd (cc)

pub refuse_passed : (fails : Bool) (failure : Failure) → refuse fails failure ≡ Ok tt → fails ≡ false
refuse_passed true failure h = absurd (cc)
refuse_passed false failure h = refl

pub path_passed : (text : Text) → is_path text ≡ true → is_long text ≡ false → IsName text
path_passed text path short =
    let parts = both (nat_lt 0 (length text)) (is_plain text) path in
    (grind (arith, nat_tests, parts.0), record { plain = parts.1; short = grind (arith, nat_tests, short) })
