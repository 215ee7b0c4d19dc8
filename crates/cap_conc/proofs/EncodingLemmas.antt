-- The fields of an encoded word, over plain numbers.
use Rattle.std.proofs.Common.{◌≡◌, ℕ, ◌+◌, ◌-◌, ◌*◌, ◌/◌, ◌%◌, ◌^◌, ◌<◌, ◌≤◌, ◌==◌, Bool, true, false, if◌then◌else◌, nat_eq, min, inl, inr, refl, sym, ◌∙◌, ap, arith, ⊎_elim, bit_and, bit_xor}
use Rattle.std.proofs.Math.Nat.{mul-le-mul_right, mul-add-mod_self_right, div-add-mod', mul-div_cancel}
use Rattle.std.proofs.lemmas.Nat.{pow_pos, pow-add, and_mask}
use Rattle.std.proofs.lemmas.Bool.{cases_lt}
use Rattle.std.proofs.lemmas.Bool.Decides.{nat_tests}
use Rattle.std.specs.Int.{from_bool}
use Rattle.std.specs.Int.Bits.{xor_self, xor_assoc, xor_zero_r}
use Rattle.cap_conc.specs.Metadata.{architectural, permissions_of, flag_of, object_type_of, internal_exponent_of, top_field_of, bottom_field_of, exponent_of, significant, bottom_of, restored_top, top_of}
use Rattle.cap_conc.specs.Bounds.{IsBounds, corrected_top}
use Rattle.cap_conc.specs.Decoding.{DecodesTo}
use Rattle.cap_conc.specs.Exact.{IsHighestBit, IsExact}
use Rattle.cap_conc.specs.Encoding.{highest_bit, bounds_field, long_bounds, compressed, metadata, fields_with, word_of}
use Rattle.cap_conc.proofs.ExactLemmas.{highest_bit-is, long_bit, grains, grain-IsExact}
use Rattle.cap_conc.proofs.Places.{size, eighth, pow_le, IsBounds-same}
use Rattle.cap_conc.specs.declared.word.Word.{Word}

-- stored metadata is architectural metadata again
pub architectural-stored : (m : ℕ) → architectural (bit_xor m 0x00001FFFFC018004) ≡ m
architectural-stored m =
    xor_assoc m 0x00001FFFFC018004 0x00001FFFFC018004 ∙ ap (bit_xor m) (xor_self 0x00001FFFFC018004) ∙ xor_zero_r m

from_bool_lt : (b : Bool) → from_bool b < 2
from_bool_lt true = omega arith
from_bool_lt false = omega arith

from_bool_eq : (b : Bool) → nat_eq (from_bool b) 1 ≡ b
from_bool_eq true = refl
from_bool_eq false = refl

-- the fields of metadata
module _ (perms : ℕ) (flag : Bool) (otype i t b : ℕ) (p : perms < 2 ^ 16) (o : otype < 2 ^ 18) (il : i < 2) (tl : t < 2 ^ 12) (bl : b < 2 ^ 14) where
  at_permissions : permissions_of (metadata perms flag otype (bounds_field i t b)) ≡ perms
  at_permissions = let f = from_bool_lt flag in omega arith

  at_flag : flag_of (metadata perms flag otype (bounds_field i t b)) ≡ from_bool flag
  at_flag = let f = from_bool_lt flag in omega arith

  at_object_type : object_type_of (metadata perms flag otype (bounds_field i t b)) ≡ otype
  at_object_type = let f = from_bool_lt flag in omega arith

  at_internal : internal_exponent_of (metadata perms flag otype (bounds_field i t b)) ≡ i
  at_internal = let f = from_bool_lt flag in omega arith

  at_top : top_field_of (metadata perms flag otype (bounds_field i t b)) ≡ t
  at_top = let f = from_bool_lt flag in omega arith

  at_bottom : bottom_field_of (metadata perms flag otype (bounds_field i t b)) ≡ b
  at_bottom = let f = from_bool_lt flag in omega arith

-- the exponent and the mantissas by the three fields of the bounds
exponent_at : (m i t b : ℕ) → internal_exponent_of m ≡ i → top_field_of m ≡ t → bottom_field_of m ≡ b → exponent_of m ≡ (if i == 0 then 0 else min 52 (8 * (t % 8) + b % 8))
exponent_at m i t b p q r = cc

bottom_at : (m i b : ℕ) → internal_exponent_of m ≡ i → bottom_field_of m ≡ b → bottom_of m ≡ significant i b
bottom_at m i b p r = cc

top_at : (m i t b : ℕ) → internal_exponent_of m ≡ i → top_field_of m ≡ t → bottom_field_of m ≡ b → top_of m ≡ restored_top (significant i b) (significant i t) i
top_at m i t b p q r = cc

-- T is restored, where a length has i above its low twelve bits
restored : (b l i t : ℕ) → i < 2 → b < 2 ^ 14 → i * 4096 ≤ l → l < i * 4096 + 4096 → t ≡ (b + l) % 4096 → restored_top b t i ≡ (b + l) % 2 ^ 14
restored b l i t il bl from until is = grind (arith, nat_tests)

-- a top no more than half the address space above the base is not corrected
corrected_top-kept : (e base length top : ℕ) → base < 2 ^ 64 → base + length ≤ 2 ^ 64 → (e < 51 → length ≤ 2 ^ 63) → top ≡ base + length → base + length ≡ corrected_top e base top
corrected_top-kept e base length top small end few is =
    ⊎_elim (λ (h : e < 51). let f = few h in grind (arith, nat_tests)) (λ (h : 51 ≤ e). grind (arith, nat_tests)) (cases_lt e 51)

-- The bounds that an exponent and two mantissas mean, where the base is b units and the length l units of 2 ^ e.
module _ (base length cursor e b l : ℕ) (few : e ≤ 52) (base_is : base ≡ b * 2 ^ e) (length_is : length ≡ l * 2 ^ e) (lengths : l < 8192) (end : base + length ≤ 2 ^ 64) (from : base ≤ cursor) (to : cursor ≤ base + length) (small : cursor < 2 ^ 64) where
  -- how many regions lie below address 0, and the units below the region
  regions : ℕ
  regions = 2 ^ (52 - e)

  below_zero : 2 ^ 66 ≡ regions * 16384 * 2 ^ e
  unfolding regions
  below_zero =
      let a : 52 - e + 14 + e ≡ 66 = omega arith in
      let p : 2 ^ (52 - e + 14 + e) ≡ 2 ^ (52 - e + 14) * 2 ^ e = pow-add 2 (52 - e + 14) e in
      let q : 2 ^ (52 - e + 14) ≡ 2 ^ (52 - e) * 16384 = pow-add 2 (52 - e) 14 in
      ap (λ x. 2 ^ x) (sym a) ∙ p ∙ ap (λ x. x * 2 ^ e) q

  some_region : 1 ≤ regions
  unfolding regions
  some_region = pow_pos (52 - e)

  units : ℕ
  units = regions * 16384 + b - 2048 - b % 2048

  -- the region begins at a multiple of its size and its limit in eighths
  units_are : (q : ℕ) × (units ≡ q * 16384 + (b % 16384 / 2048 + 7) % 8 * 2048)
  unfolding units
  units_are =
      let r = some_region in
      (units / 16384, omega (arith, r))

  -- what the products come to, in units
  sums : (units * 2 ^ e + 2048 * 2 ^ e + b % 2048 * 2 ^ e ≡ 2 ^ 66 + base) × (b % 2048 * 2 ^ e ≤ 2047 * 2 ^ e) × (l * 2 ^ e ≤ 8191 * 2 ^ e)
  unfolding units
  sums =
      let r = some_region in
      let z = below_zero in
      let a : (regions * 16384 + b - 2048 - b % 2048 + 2048 + b % 2048) * 2 ^ e ≡ (regions * 16384 + b) * 2 ^ e = ap (λ x. x * 2 ^ e) (omega (arith, r)) in
      (omega (arith, a, z), mul-le-mul_right (2 ^ e) (omega arith), mul-le-mul_right (2 ^ e) (omega arith))

  -- a place of so many units is congruent to the low 14 bits of their number
  congruent_units : (n : ℕ) → (2 ^ 66 + n * 2 ^ e) % 2 ^ (e + 14) ≡ n % 16384 * 2 ^ e % 2 ^ (e + 14)
  congruent_units n =
      let z = below_zero in
      let m = size e in
      let a : n * 2 ^ e ≡ (n / 16384 * 16384 + n % 16384) * 2 ^ e = ap (λ x. x * 2 ^ e) (omega arith) in
      let c : (regions + n / 16384) * 2 ^ (e + 14) ≡ (regions + n / 16384) * (16384 * 2 ^ e) = ap (λ x. (regions + n / 16384) * x) m in
      let d : 2 ^ 66 + n * 2 ^ e ≡ (regions + n / 16384) * 2 ^ (e + 14) + n % 16384 * 2 ^ e = omega (arith, z, a, c) in
      ap (λ x. x % 2 ^ (e + 14)) d ∙ mul-add-mod_self_right (regions + n / 16384) (2 ^ (e + 14)) (n % 16384 * 2 ^ e)

  encoded_bounds : IsBounds cursor e (b % 16384) ((b + l) % 16384) base (base + length)
  encoded_bounds =
      let m = size e in
      let k = eighth e in
      let q = units_are in
      let limit = (b % 16384 / 2048 + 7) % 8 in
      let start : ℕ = q.0 * 2 ^ (e + 14) + limit * 2 ^ (e + 11) in
      let w : units * 2 ^ e ≡ (q.0 * 16384 + limit * 2048) * 2 ^ e = ap (λ x. x * 2 ^ e) q.1 in
      let x : q.0 * 2 ^ (e + 14) ≡ q.0 * (16384 * 2 ^ e) = ap (λ x. q.0 * x) m in
      let y : limit * 2 ^ (e + 11) ≡ limit * (2048 * 2 ^ e) = ap (λ x. limit * x) k in
      let start_is : start ≡ units * 2 ^ e = omega arith in
      let p = pow_pos e in
      let t = sums in
      let top_units : base + length ≡ (b + l) * 2 ^ e = omega arith in
      record {
        start = start;
        base_place = 2 ^ 66 + base;
        top_place = 2 ^ 66 + (base + length);
        region = record { from = omega arith; until = omega arith; aligned = mul-add-mod_self_right q.0 (2 ^ (e + 14)) (limit * 2 ^ (e + 11)) };
        base_meant = record { from = omega arith; until = omega arith; congruent = ap (λ x. (2 ^ 66 + x) % 2 ^ (e + 14)) base_is ∙ congruent_units b };
        top_meant = record { from = omega arith; until = omega arith; congruent = ap (λ x. (2 ^ 66 + x) % 2 ^ (e + 14)) top_units ∙ congruent_units (b + l) };
        base_is = omega arith;
        top_is = corrected_top-kept e base length _ (omega arith) end (λ h. let v = pow_le e 50 (omega arith) in omega arith) (omega arith);
      }

-- the word of these fields, and what it should decode to
abbrev stored_word : ℕ → ℕ → Word
stored_word cursor m = record { address = cursor; meta = bit_xor m 0x00001FFFFC018004 }

decodes_from : (base length cursor perms : ℕ) (flag : Bool) (otype i t b e bottom top : ℕ) → perms < 2 ^ 16 → otype < 2 ^ 18 → i < 2 → t < 2 ^ 12 → b < 2 ^ 14 → (if i == 0 then 0 else min 52 (8 * (t % 8) + b % 8)) ≡ e → significant i b ≡ bottom → restored_top (significant i b) (significant i t) i ≡ top → IsBounds cursor e bottom top base (base + length) → DecodesTo (stored_word cursor (metadata perms flag otype (bounds_field i t b))) (fields_with base length cursor perms flag otype)
decodes_from base length cursor perms flag otype i t b e bottom top p o il tl bl is_e is_b is_t h =
    let m = metadata perms flag otype (bounds_field i t b) in
    let s = architectural-stored m in
    let internal = ap internal_exponent_of s ∙ at_internal perms flag otype i t b p o il tl bl in
    let t_is = ap top_field_of s ∙ at_top perms flag otype i t b p o il tl bl in
    let b_is = ap bottom_field_of s ∙ at_bottom perms flag otype i t b p o il tl bl in
    let n = architectural (bit_xor m 0x00001FFFFC018004) in
    record {
      cursor = refl;
      permissions = sym (ap permissions_of s ∙ at_permissions perms flag otype i t b p o il tl bl);
      flag = sym (ap (λ x. nat_eq (flag_of x) 1) s ∙ ap (λ x. nat_eq x 1) (at_flag perms flag otype i t b p o il tl bl) ∙ from_bool_eq flag);
      object_type = sym (ap object_type_of s ∙ at_object_type perms flag otype i t b p o il tl bl);
      bounds = IsBounds-same cursor base (base + length) (sym (exponent_at n i t b internal t_is b_is ∙ is_e)) (sym (bottom_at n i b internal b_is ∙ is_b)) (sym (top_at n i t b internal t_is b_is ∙ is_t)) h;
    }

compressed_short : (base length : ℕ) → length < 4096 → compressed base length ≡ bounds_field 0 ((base + length) % 2 ^ 12) (base % 2 ^ 14)
compressed_short base length h = grind (arith, nat_tests)

pub compressed_long : (base length m : ℕ) → 4096 ≤ length → IsHighestBit length m → compressed base length ≡ long_bounds (m - 12) base (base + length)
compressed_long base length m h bit =
    let e = highest_bit-is length m (omega arith) bit in
    let a : compressed base length ≡ long_bounds (highest_bit length - 12) base (base + length) = grind (arith, nat_tests) in
    a ∙ ap (λ x. long_bounds (x - 12) base (base + length)) e

-- a multiple of 8 units
multiple : (n g u : ℕ) → g ≡ 8 * u → 0 < u → n % g ≡ 0 → (q : ℕ) × (n ≡ 8 * q * u) × (n / u ≡ 8 * q)
multiple n g u is p h =
    let a = div-add-mod' n g in
    let b : n / g * g ≡ n / g * (8 * u) = ap (λ x. n / g * x) is in
    let c : n ≡ 8 * (n / g) * u = omega arith in
    (n / g, c, ap (λ x. x / u) c ∙ mul-div_cancel (8 * (n / g)) p)

-- at the exponent of a long length, base and length are multiples of 8 units, and the length has a highest bit of 12
pub record IsLong (base length u : ℕ) : Type 0 where
  pub base_units : base ≡ base / u * u
  pub length_units : length ≡ length / u * u
  pub base_low : base / u % 8 ≡ 0
  pub length_low : length / u % 8 ≡ 0
  pub at_least : 4096 ≤ length / u
  pub below : length / u < 8192
  pub end_units : (base + length) / u ≡ base / u + length / u

pub IsLong-at : (base length m : ℕ) → 4096 ≤ length → IsHighestBit length m → IsExact base length → IsLong base length (2 ^ (m - 12))
IsLong-at base length m h bit exact =
    let high = long_bit length m h bit in
    let both = grain-IsExact base length m (2 ^ (m - 9)) h bit refl exact in
    let p = pow_pos (m - 12) in
    let g : 2 ^ (m - 9) ≡ 8 * 2 ^ (m - 12) = ap (λ x. 2 ^ x) (omega arith) ∙ pow-add 2 (m - 12) 3 ∙ omega arith in
    let x = multiple base (2 ^ (m - 9)) (2 ^ (m - 12)) g p both.0 in
    let y = multiple length (2 ^ (m - 9)) (2 ^ (m - 12)) g p both.1 in
    let s = grains m (2 ^ (m - 9)) high refl in
    let reached = bit.reached in
    let below = bit.below in
    let z : base + length ≡ (8 * x.0 + 8 * y.0) * 2 ^ (m - 12) = omega (arith, x.1, y.1) in
    record {
      base_units = x.1 ∙ ap (λ v. v * 2 ^ (m - 12)) (sym x.2);
      length_units = y.1 ∙ ap (λ v. v * 2 ^ (m - 12)) (sym y.2);
      base_low = omega (arith, x.2);
      length_low = omega (arith, y.2);
      at_least = ⊎_elim
          (λ (l : length / 2 ^ (m - 12) < 4096). let k : (length / 2 ^ (m - 12) + 1) * 2 ^ (m - 12) ≤ 4096 * 2 ^ (m - 12) = mul-le-mul_right (2 ^ (m - 12)) (omega arith) in absurd (omega (arith, y.1, y.2, ap (λ v. v * 2 ^ (m - 12)) y.2)))
          (λ (l : 4096 ≤ length / 2 ^ (m - 12)). l)
          (cases_lt (length / 2 ^ (m - 12)) 4096);
      below = ⊎_elim
          (λ (l : length / 2 ^ (m - 12) < 8192). l)
          (λ (l : 8192 ≤ length / 2 ^ (m - 12)). let k : 8192 * 2 ^ (m - 12) ≤ length / 2 ^ (m - 12) * 2 ^ (m - 12) = mul-le-mul_right (2 ^ (m - 12)) l in absurd (omega (arith, y.1, ap (λ v. v * 2 ^ (m - 12)) y.2)))
          (cases_lt (length / 2 ^ (m - 12)) 8192);
      end_units = ap (λ v. v / 2 ^ (m - 12)) z ∙ mul-div_cancel (8 * x.0 + 8 * y.0) p ∙ omega (arith, x.2, y.2);
    }

-- the two fields of long bounds, where n is the end in units
pub record IsFields (b l e n : ℕ) : Type 0 where
  pub top_fits : n % 4096 + e / 8 < 2 ^ 12
  pub bottom_fits : b % 16384 + e % 8 < 2 ^ 14
  pub exponent : min 52 (8 * ((n % 4096 + e / 8) % 8) + (b % 16384 + e % 8) % 8) ≡ e
  pub bottom : 8 * ((b % 16384 + e % 8) / 8) ≡ b % 16384
  pub top : restored_top (8 * ((b % 16384 + e % 8) / 8)) (8 * ((n % 4096 + e / 8) / 8)) 1 ≡ (b + l) % 16384

-- a number whose low three bits are 0, with other bits in their place
low_bits : (n x : ℕ) → n % 8 ≡ 0 → x < 8 → (8 * ((n + x) / 8) ≡ n) × ((n + x) % 8 ≡ x)
low_bits n x h l = (omega arith, omega arith)

pub IsFields-at : (b l e n : ℕ) → b % 8 ≡ 0 → l % 8 ≡ 0 → 4096 ≤ l → l < 8192 → e ≤ 52 → n ≡ b + l → IsFields b l e n
IsFields-at b l e n b_low l_low at_least below few is =
    let t = low_bits (n % 4096) (e / 8) (omega arith) (omega arith) in
    let v = low_bits (b % 16384) (e % 8) (omega arith) (omega arith) in
    record {
      top_fits = omega arith;
      bottom_fits = omega arith;
      exponent = omega (arith, t.1, v.1);
      bottom = v.0;
      top = ap (λ x. restored_top x (8 * ((n % 4096 + e / 8) / 8)) 1) v.0 ∙ ap (λ x. restored_top (b % 16384) x 1) t.0 ∙ restored (b % 16384) l 1 (n % 4096) (omega arith) (omega arith) (omega arith) (omega arith) (omega arith) ∙ omega arith;
    }

-- a word of exact bounds decodes to them
module _ (base length cursor perms : ℕ) (flag : Bool) (otype : ℕ) (exact : IsExact base length) (end : base + length ≤ 2 ^ 64) (from : base ≤ cursor) (to : cursor ≤ base + length) (small : cursor < 2 ^ 64) (p : perms < 2 ^ 16) (o : otype < 2 ^ 18) where
  decodes_short : length < 4096 → DecodesTo (word_of base length cursor perms flag otype) (fields_with base length cursor perms flag otype)
  unfolding word_of
  decodes_short h =
      rw (compressed_short base length h) (decodes_from base length cursor perms flag otype 0 ((base + length) % 2 ^ 12) (base % 2 ^ 14) 0 (base % 16384) ((base + length) % 16384) p o (omega arith) (omega arith) (omega arith) refl refl
      (restored (base % 2 ^ 14) length 0 ((base + length) % 2 ^ 12) (omega arith) (omega arith) (omega arith) (omega arith) (omega arith) ∙ omega arith)
      (encoded_bounds base length cursor 0 base length (omega arith) (omega arith) (omega arith) (omega arith) end from to small))

  decodes_long : (m : ℕ) → 4096 ≤ length → length ≤ 2 ^ 64 → IsHighestBit length m → DecodesTo (word_of base length cursor perms flag otype) (fields_with base length cursor perms flag otype)
  unfolding word_of
  decodes_long m h fits bit =
      let high = long_bit length m h bit in
      let u = 2 ^ (m - 12) in
      let e = m - 12 in
      let r = IsLong-at base length m h bit exact in
      let b = base / u in
      let l = length / u in
      let few : e ≤ 52 = ⊎_elim (λ (k : m < 65). omega arith) (λ (k : 65 ≤ m). let v : 2 ^ 65 ≤ 2 ^ m = pow_le 65 m k in absurd (omega (arith, bit.reached))) (cases_lt m 65) in
      let f = IsFields-at b l e ((base + length) / u) r.base_low r.length_low r.at_least r.below few r.end_units in
      let one : 1 < 2 = omega arith in
      rw (compressed_long base length m h bit) (decodes_from base length cursor perms flag otype 1 ((base + length) / u % 2 ^ 12 + e / 8) (b % 2 ^ 14 + e % 8) e (b % 16384) ((b + l) % 16384) p o one f.top_fits f.bottom_fits f.exponent f.bottom f.top
      (encoded_bounds base length cursor e b l few r.base_units r.length_units r.below end from to small))

  pub DecodesTo-word_of : DecodesTo (word_of base length cursor perms flag otype) (fields_with base length cursor perms flag otype)
  DecodesTo-word_of = by_length exact where
    by_length : IsExact base length → DecodesTo (word_of base length cursor perms flag otype) (fields_with base length cursor perms flag otype)
    by_length (inl h) = decodes_short h
    by_length (inr (m, bit, _, _)) = ⊎_elim decodes_short (λ h. decodes_long m h (omega arith) bit) (cases_lt length 4096)

-- what `compress` computes for a long length
pub long_bounds-computed : (base length m n x y z : ℕ) → 4096 ≤ length → length < 2 ^ 64 → IsHighestBit length m → IsExact base length → n ≡ base + length → x ≡ (m - 12) / 8 → y ≡ bit_and (m - 12) 7 → z ≡ 67108864 + (bit_and (n / 2 ^ (m - 12)) 4095 + x) * 16384 % 2 ^ 64 + bit_and (base / 2 ^ (m - 12)) 16383 + y → (z ≡ compressed base length) × (z < 2 ^ 27)
long_bounds-computed base length m n x y z h fits bit exact n_is x_is y_is z_is =
    let few : m < 64 = ⊎_elim (λ (k : m < 64). k) (λ (k : 64 ≤ m). let v : 2 ^ 64 ≤ 2 ^ m = pow_le 64 m k in absurd (omega (arith, bit.reached))) (cases_lt m 64) in
    let r = IsLong-at base length m h bit exact in
    let u = 2 ^ (m - 12) in
    let f = IsFields-at (base / u) (length / u) (m - 12) ((base + length) / u) r.base_low r.length_low r.at_least r.below (omega arith) r.end_units in
    let a : bit_and (n / u) 4095 ≡ (base + length) / u % 4096 = and_mask (n / u) 12 ∙ ap (λ v. v / u % 4096) n_is in
    let b : bit_and (base / u) 16383 ≡ base / u % 16384 = and_mask (base / u) 14 in
    let c : bit_and (m - 12) 7 ≡ (m - 12) % 8 = and_mask (m - 12) 3 in
    let t = f.top_fits in
    let v = f.bottom_fits in
    let w : z ≡ long_bounds (m - 12) base (base + length) = omega arith in
    (w ∙ sym (compressed_long base length m h bit), omega arith)
