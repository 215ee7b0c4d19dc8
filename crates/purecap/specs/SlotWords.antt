-- What the words of `reach` say of a slot.
use Rattle.std.specs.Prelude.{ℕ, Bool, not, ◌&&◌, ◌||◌, nat_lt, nat_le, length, take, drop, codes, Result, Ok}
use Rattle.std.specs.Char.{is_ascii_digit}
use Rattle.std.specs.List.{list_all}
use Rattle.std.specs.Str.{bytes_eq}
use Rattle.std.specs.Str.Parse.{digits_value}
use Rattle.clap.specs.Walk.{Text}
use Rattle.cap_base.specs.Steps.{◌>>◌}
use Rattle.purecap.specs.declared.faults.Failure.{Failure}
use Rattle.purecap.specs.declared.faults.Failure.TheVariants.{Usage}
use Rattle.purecap.specs.WordRules.{refuse}

-- a digit of base 16, in lower case
abbrev pub is_hex_digit : ℕ → Bool
is_hex_digit byte = is_ascii_digit byte || nat_le 0x61 byte && nat_le byte 0x66

-- `0x`, and 1 to 16 digits behind it
unfoldable pub is_slot : Text → Bool
is_slot word = bytes_eq (take 2 word) (codes "0x") && nat_lt 2 (length word) && nat_le (length word) 18 && list_all is_hex_digit (drop 2 word)

-- the address that such a word writes
unfoldable pub slot_in : Text → ℕ
slot_in word = digits_value 16 (drop 2 word)

unfoldable pub slot_of : Text → Result ℕ Failure
slot_of word = refuse (not (is_slot word)) Usage >> Ok (slot_in word)
