-- The word of a capability with exact bounds, after the encoding of CHERI Concentrate in CHERI ISA v9
-- (UCAM-CL-TR-987).
use Rattle.std.specs.Prelude.{ℕ, ◌+◌, ◌-◌, ◌*◌, ◌/◌, ◌%◌, ◌^◌, Bool, nat_lt, if◌then◌else◌, bit_xor}
use Rattle.std.specs.Int.{from_bool}
use Rattle.std.specs.Int.Count.{count_leading_zeros}
use Rattle.cap_conc.specs.declared.word.Word.{Word}
use Rattle.cap_conc.specs.declared.word.Fields.{Fields}

-- a number of bits that holds n, and never fewer than 128
abbrev pub width_of : ℕ → ℕ
width_of n = 128 + n / 2 ^ 128

-- the place of the highest one bit of a positive number
abbrev pub highest_bit : ℕ → ℕ
highest_bit n = width_of n - 1 - count_leading_zeros (width_of n) n

-- bits 26 to 0 of the metadata: IE, T and B
abbrev pub bounds_field : ℕ → ℕ → ℕ → ℕ
bounds_field internal top bottom = internal * 2 ^ 26 + top * 2 ^ 14 + bottom

-- ISA v9: under an internal exponent T and B are the bits of top and base from the exponent on, and the bits of the
-- exponent stand in the low three of each
abbrev pub long_bounds : ℕ → ℕ → ℕ → ℕ
long_bounds exponent base end =
    bounds_field 1 (end / 2 ^ exponent % 2 ^ 12 + exponent / 8) (base / 2 ^ exponent % 2 ^ 14 + exponent % 8)

-- ISA v9: a length below 4096 has no internal exponent; that of a longer one puts the length's highest bit at place 12
abbrev pub compressed : ℕ → ℕ → ℕ
compressed base length =
    if nat_lt length 4096 then bounds_field 0 ((base + length) % 2 ^ 12) (base % 2 ^ 14) else long_bounds (highest_bit length - 12) base (base + length)

-- architectural metadata, with reserved bits of 0
abbrev pub metadata : ℕ → Bool → ℕ → ℕ → ℕ
metadata permissions flag object_type bounds =
    permissions * 2 ^ 48 + from_bool flag * 2 ^ 45 + object_type * 2 ^ 27 + bounds

-- the word, as memory holds it, of exact bounds, a cursor, permissions, a flag and an object type
unfoldable pub word_of : ℕ → ℕ → ℕ → ℕ → Bool → ℕ → Word
word_of base length cursor permissions flag object_type =
    record { address = cursor; meta = bit_xor (metadata permissions flag object_type (compressed base length)) 0x00001FFFFC018004 }

-- the fields that this word has
abbrev pub fields_with : ℕ → ℕ → ℕ → ℕ → Bool → ℕ → Fields
fields_with base length cursor permissions flag object_type =
    record { base = base; top = base + length; cursor = cursor; perms = permissions; flag = flag; otype = object_type }
