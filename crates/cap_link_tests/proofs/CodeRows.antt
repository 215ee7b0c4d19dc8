-- Worked fields, ranges and stubs, by computation.
use Rattle.std.specs.Prelude.{◌≡◌, ◌-◌, ◌^◌, [], ◌∷◌, take, true, false, refl}
use Rattle.std.specs.List.{flat_map}
use Rattle.cap_base.specs.Field.{number_bytes}
use Rattle.cap_code.specs.Values.{distance, value_passes}
use Rattle.cap_code.specs.Patched.{patched_field, computed, stub_words, high_part, low_part}

-- a jump by 16, and a branch by -4
pub jump : patched_field 17 0x0000006F 16 ≡ 0x0100006F
unfolding patched_field
jump = refl

pub branch : patched_field 16 0x00000063 (2 ^ 64 - 4) ≡ 0xFE000EE3
unfolding patched_field
branch = refl

-- a branch reaches from -4096 on, up to 4096 without it, and no odd distance
pub branch_farthest : value_passes 16 (2 ^ 64 - 4096) ≡ true
unfolding value_passes
branch_farthest = refl

pub branch_passes : value_passes 16 (2 ^ 64 - 4) ≡ true
unfolding value_passes
branch_passes = refl

pub branch_too_far : value_passes 16 4096 ≡ false
unfolding value_passes
branch_too_far = refl

pub branch_odd : value_passes 16 3 ≡ false
unfolding value_passes
branch_odd = refl

-- a jump reaches 2 ^ 20 back, and not one step further
pub jump_farthest : value_passes 17 (2 ^ 64 - 2 ^ 20) ≡ true
unfolding value_passes
jump_farthest = refl

pub jump_too_far : value_passes 17 (2 ^ 64 - 2 ^ 20 - 2) ≡ false
unfolding value_passes
jump_too_far = refl

-- a stub at 0x1000 and its slot at 0x20D0
pub stub : stub_words (distance 0x20D0 0x1000) ≡ 0x00001397 ∷ 0x0D03A38F ∷ 0xFEC3805B ∷ 0x00000013 ∷ []
stub = refl

pub stub_first : take 8 (flat_map (number_bytes 4) (stub_words (distance 0x20D0 0x1000))) ≡ 0x97 ∷ 0x13 ∷ 0x00 ∷ 0x00 ∷ 0x8F ∷ 0xA3 ∷ 0x03 ∷ 0x0D ∷ []
stub_first = refl

-- from code at 0x1010 to a slot at 0x20C0, and from 0x1018 to a stub at 0x1000
pub slot_high : high_part (distance 0x20C0 0x1010) ≡ 1
slot_high = refl

pub slot_low : low_part (distance 0x20C0 0x1010) ≡ 0x0B0
slot_low = refl

pub call_high : high_part (distance 0x1000 0x1018) ≡ 0
call_high = refl

pub call_low : low_part (distance 0x1000 0x1018) ≡ 0xFE8
call_low = refl

-- six bits of a byte, the others as they were
pub six_bits : computed 52 0xC5 3 ≡ 0xC2
unfolding computed
six_bits = refl

pub six_bits_below : computed 52 0xC1 3 ≡ 0xFE
unfolding computed
six_bits_below = refl
