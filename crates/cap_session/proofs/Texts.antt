-- Names as texts.
use Rattle.std.proofs.Common.{◌≡◌, ℕ, ◌<◌, ◌≤◌, true, false, List, length, Result, Ok, Err, refl, arith}
use Rattle.std.specs.Prelude.{All, IsOk, MatchResult}
use Rattle.std.specs.Str.{IsUtf8}
use Rattle.std.proofs.lemmas.Bool.Decides.{nat_tests}
use Rattle.std.proofs.lemmas.List.Sums.{AllPass-from_list_all}
use Rattle.std.proofs.lemmas.Str.{IsUtf8-from_ascii}
use Rattle.std.proofs.lemmas.Str.Ascii.{IsAscii-from_all}
use Rattle.cap_base.specs.Text.{is_plain, is_plain_byte}
use Rattle.cap_session.specs.Mappings.{IsName}

plain_low : (b : ℕ) → is_plain_byte b ≡ true → b < 128
plain_low b h = grind (arith, nat_tests)

-- a name is a text
pub name_utf8 : (name : List ℕ) → IsName name → IsUtf8 name
name_utf8 name h = IsUtf8-from_ascii name (IsAscii-from_all name (λ k d lt. plain_low _ (AllPass-from_list_all is_plain_byte name h.1.plain k d lt)))

pub ok_unless : {X E U : Type 0} (P : X → Type 0) (Q : E → Type 0) (r : Result X E) → U → MatchResult r P (λ e. (U → ⊥) × Q e) → IsOk r
ok_unless P Q (Ok x) u h = refl
ok_unless P Q (Err e) u h = absurd (h.0 u)
