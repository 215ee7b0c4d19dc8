-- The metadata of a capability word, field by field, after the RISC-V in-memory format of CHERI ISA v9
-- (UCAM-CL-TR-987). m is architectural metadata.
use Rattle.std.specs.Prelude.{ℕ, ◌+◌, ◌*◌, ◌/◌, ◌%◌, ◌^◌, ◌==◌, min, nat_lt, if◌then◌else◌, bit_xor}

-- ISA v9: memory holds the metadata XORed with that of the null capability, so that null is all zeros
abbrev pub architectural : ℕ → ℕ
architectural meta = bit_xor meta 0x00001FFFFC018004

-- ISA v9: the top 16 bits are permissions, four for software above twelve that hardware knows
abbrev pub permissions_of : ℕ → ℕ
permissions_of m = m / 2 ^ 48 % 2 ^ 16

-- ISA v9: the flag is 1 where code runs in capability mode
abbrev pub flag_of : ℕ → ℕ
flag_of m = m / 2 ^ 45 % 2

-- ISA v9: 18 bits of object type
abbrev pub object_type_of : ℕ → ℕ
object_type_of m = m / 2 ^ 27 % 2 ^ 18

-- ISA v9: IE is 1 where the low three bits of T and of B hold the exponent
abbrev pub internal_exponent_of : ℕ → ℕ
internal_exponent_of m = m / 2 ^ 26 % 2

-- T as it stands in the word, 12 bits
abbrev pub top_field_of : ℕ → ℕ
top_field_of m = m / 2 ^ 14 % 2 ^ 12

-- B as it stands in the word, 14 bits
abbrev pub bottom_field_of : ℕ → ℕ
bottom_field_of m = m % 2 ^ 14

-- ISA v9: E is 0 without an internal exponent; else its high three bits are in T and its low three in B, and a
-- larger one than 52 counts as 52
abbrev pub exponent_of : ℕ → ℕ
exponent_of m =
    if internal_exponent_of m == 0 then 0 else min 52 (8 * (top_field_of m % 8) + bottom_field_of m % 8)

-- ISA v9: under an internal exponent the low three bits of a mantissa count as 0
abbrev pub significant : ℕ → ℕ → ℕ
significant internal field = if internal == 0 then field else 8 * (field / 8)

-- B, of 14 bits
abbrev pub bottom_of : ℕ → ℕ
bottom_of m = significant (internal_exponent_of m) (bottom_field_of m)

-- ISA v9: the two top bits of T aren't stored; they are those of B, plus a carry where T's low twelve bits are below
-- B's, plus 1 under an internal exponent, whose length has its highest bit there
abbrev pub restored_top : ℕ → ℕ → ℕ → ℕ
restored_top bottom low internal =
    2 ^ 12 * ((bottom / 2 ^ 12 + (if nat_lt low (bottom % 2 ^ 12) then 1 else 0) + internal) % 4) + low

-- T, of 14 bits
abbrev pub top_of : ℕ → ℕ
top_of m =
    restored_top (bottom_of m) (significant (internal_exponent_of m) (top_field_of m)) (internal_exponent_of m)

-- ISA v9: R is one less than the top three bits of B; the representable region begins at R eighths of its size
abbrev pub region_limit_of : ℕ → ℕ
region_limit_of bottom = (bottom / 2 ^ 11 + 7) % 8
