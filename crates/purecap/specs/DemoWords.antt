-- What the words of `demo` ask for.
use Rattle.std.specs.Prelude.{ℕ, ◌^◌, Bool, not, ◌&&◌, ◌==◌, nat_lt, nat_le, List, length, slice_index, codes, Result, Ok}
use Rattle.std.specs.Char.{is_ascii_digit}
use Rattle.std.specs.List.{list_all}
use Rattle.std.specs.Str.Parse.{digits_value}
use Rattle.clap.specs.Simple.{App, new_app, with_rule}
use Rattle.clap.specs.Walk.{Text}
use Rattle.cap_base.specs.Steps.{◌>>=◌, ◌>>◌}
use Rattle.purecap.specs.declared.faults.Failure.{Failure}
use Rattle.purecap.specs.declared.faults.Failure.TheVariants.{Usage}
use Rattle.purecap.specs.WordRules.{operand, parsed, refuse, value_of}

-- `demo NUMBER`
unfoldable pub demo_app : App
demo_app = with_rule (new_app (codes "demo")) (operand (codes "number"))

-- a zero with other digits behind it
abbrev pub has_leading_zero : Text → Bool
has_leading_zero word = nat_lt 1 (length word) && (slice_index word 0 == 0x30)

-- decimal digits, one at least
abbrev pub has_digits : Text → Bool
has_digits word = nat_lt 0 (length word) && list_all is_ascii_digit word

unfoldable pub is_numeral : Text → Bool
is_numeral word = has_digits word && not (has_leading_zero word)

-- the number that decimal digits write
unfoldable pub number_in : Text → ℕ
number_in word = digits_value 10 word

-- a number below 2^32, without a sign or a leading zero
unfoldable pub number_of : Text → Result ℕ Failure
number_of word =
    refuse (not (is_numeral word)) Usage
    >> refuse (nat_le (2 ^ 32) (number_in word)) Usage
    >> Ok (number_in word)

unfoldable pub demo_words : List Text → Result ℕ Failure
demo_words words = do
  rows ← parsed demo_app words
  number_of (value_of rows (codes "number"))
