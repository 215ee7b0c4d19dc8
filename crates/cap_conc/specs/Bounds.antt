-- The bounds of a capability, after the decoding of CHERI Concentrate in CHERI ISA v9 (UCAM-CL-TR-987). Places are
-- counted from 2 ^ 66 below address 0, so that a region which begins below address 0 begins at a natural number;
-- 2 ^ 66 is a multiple of the size of each region.
use Rattle.std.specs.Prelude.{◌≡◌, ℕ, ◌+◌, ◌-◌, ◌*◌, ◌/◌, ◌%◌, ◌^◌, ◌<◌, ◌≤◌, nat_lt, ◌&&◌, if◌then◌else◌}
use Rattle.cap_conc.specs.Metadata.{region_limit_of}

-- ISA v9: the representable region of an address is the window of 2 ^ (E + 14) bytes about it that begins at R
-- eighths of its size; start is the only number with these three facts
pub record IsRegion (exponent limit place start : ℕ) : Type 0 where
  pub from : start ≤ place
  pub until : place < start + 2 ^ (exponent + 14)
  pub aligned : start % 2 ^ (exponent + 14) ≡ limit * 2 ^ (exponent + 11) % 2 ^ (exponent + 14)

-- ISA v9: a bound has the mantissa as its middle bits, and lies in the region of the address; place is the only
-- number with these three facts
pub record IsMeant (exponent start mantissa place : ℕ) : Type 0 where
  pub from : start ≤ place
  pub until : place < start + 2 ^ (exponent + 14)
  pub congruent : place % 2 ^ (exponent + 14) ≡ mantissa * 2 ^ exponent % 2 ^ (exponent + 14)

-- ISA v9: bit 64 of a top of 65 bits is inverted where the exponent is below 51 and the top lies neither in the half
-- of the address space that has the base nor in the one after it
abbrev pub corrected_top : ℕ → ℕ → ℕ → ℕ
corrected_top exponent base top =
    if nat_lt exponent 51 && nat_lt 1 ((top / 2 ^ 63 + 4 - base / 2 ^ 63) % 4) then (top + 2 ^ 64) % 2 ^ 65 else top

-- ISA v9: base, of 64 bits, and top, of 65, are the bounds that an address, an exponent and two mantissas mean
pub record IsBounds (address exponent bottom upper base top : ℕ) : Type 0 where
  pub start : ℕ
  pub base_place : ℕ
  pub top_place : ℕ
  pub region : IsRegion exponent (region_limit_of bottom) (2 ^ 66 + address) start
  pub base_meant : IsMeant exponent start bottom base_place
  pub top_meant : IsMeant exponent start upper top_place
  pub base_is : base ≡ base_place % 2 ^ 64
  pub top_is : top ≡ corrected_top exponent base (top_place % 2 ^ 65)
