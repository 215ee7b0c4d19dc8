-- The same meanings as functions: what a word decodes to, which bounds are exact, and how lengths round.
use Rattle.std.specs.Prelude.{ℕ, ◌+◌, ◌-◌, ◌*◌, ◌%◌, ◌^◌, Bool, ◌==◌, ◌&&◌, ◌||◌, nat_eq, nat_lt, if◌then◌else◌}
use Rattle.std.specs.Int.{next_multiple_of}
use Rattle.cap_conc.specs.declared.word.Word.{Word}
use Rattle.cap_conc.specs.declared.word.Fields.{Fields}
use Rattle.cap_conc.specs.Metadata.{architectural, permissions_of, flag_of, object_type_of, exponent_of, bottom_of, top_of, region_limit_of}
use Rattle.cap_conc.specs.Bounds.{corrected_top}
use Rattle.cap_conc.specs.Encoding.{highest_bit}

-- where the region of a place begins
abbrev pub region_start : ℕ → ℕ → ℕ → ℕ
region_start exponent limit place =
    place - (place + (8 - limit) * 2 ^ (exponent + 11)) % 2 ^ (exponent + 14)

-- the place of a region that a mantissa means
abbrev pub meant_place : ℕ → ℕ → ℕ → ℕ
meant_place exponent start mantissa =
    start + (mantissa * 2 ^ exponent + 2 ^ (exponent + 14) - start % 2 ^ (exponent + 14)) % 2 ^ (exponent + 14)

-- the base, by an address, an exponent and B
abbrev pub base_of : ℕ → ℕ → ℕ → ℕ
base_of address exponent bottom =
    meant_place exponent (region_start exponent (region_limit_of bottom) (2 ^ 66 + address)) bottom % 2 ^ 64

-- the top, by an address, an exponent, B and T
abbrev pub limit_of : ℕ → ℕ → ℕ → ℕ → ℕ
limit_of address exponent bottom upper =
    corrected_top exponent (base_of address exponent bottom) (meant_place exponent (region_start exponent (region_limit_of bottom) (2 ^ 66 + address)) upper % 2 ^ 65)

-- the fields of a word
unfoldable pub fields_of : Word → Fields
fields_of w =
    let m = architectural w.meta in
    record {
      base = base_of w.address (exponent_of m) (bottom_of m);
      top = limit_of w.address (exponent_of m) (bottom_of m) (top_of m);
      cursor = w.address;
      perms = permissions_of m;
      flag = nat_eq (flag_of m) 1;
      otype = object_type_of m;
    }

-- the power of two between whose multiples a long length is exact
abbrev pub grain_of : ℕ → ℕ
grain_of length = 2 ^ (highest_bit length - 9)

-- whether a capability can have these bounds exactly
unfoldable pub is_exact : ℕ → ℕ → Bool
is_exact base length =
    nat_lt length 4096 || (base % grain_of length == 0 && length % grain_of length == 0)

-- the least exact length that is not below the wanted one
unfoldable pub representable_length : ℕ → ℕ
representable_length wanted =
    if nat_lt wanted 4096 then wanted else next_multiple_of wanted (grain_of wanted)

-- the alignment at which bounds of that length are exact
unfoldable pub representable_alignment : ℕ → ℕ
representable_alignment wanted =
    if nat_lt (representable_length wanted) 4096 then 1 else grain_of (representable_length wanted)
