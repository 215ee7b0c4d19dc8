-- Fields of bits, over plain numbers.
use Rattle.std.proofs.Common.{◌≡◌, ℕ, List, length, drop, slice_index, ◌+◌, ◌-◌, ◌*◌, ◌/◌, ◌%◌, ◌^◌, ◌<◌, ◌≤◌, sym, ◌∙◌, ap, arith, subst}
use Rattle.std.proofs.Math.Nat.{mul-le-mul_right, mod-lt, div-lt_iff_lt-mul}
use Rattle.std.proofs.lemmas.Nat.{pow-add}
use Rattle.std.proofs.lemmas.List.{get_or-drop}
use Rattle.cap_base.specs.Field.{number_at}

-- the low bits and those of the field stay below the bits above them
pub field_below : (v w width low : ℕ) → 0 < width → 0 < low → v % width * low + w % low < width * low
field_below v w width low p q =
    let field : v % width < width = mod-lt v p in
    let rest : w % low < low = mod-lt w q in
    let times : (v % width + 1) * low ≤ width * low = mul-le-mul_right low (omega (arith, field)) in
    omega (arith, times, rest)

-- and with the bits above they stay below a power of two
pub word_below : (v w width low high above : ℕ) → 0 < width → 0 < low → 0 < high → high ≡ width * low → w < above * high → w / high * high + v % width * low + w % low < above * high
word_below v w width low high above p q r e lt =
    let top : w / high < above = (div-lt_iff_lt-mul r).1 lt in
    let times : (w / high + 1) * high ≤ above * high = mul-le-mul_right high (omega (arith, top)) in
    let below : v % width * low + w % low < high = subst (λ n. v % width * low + w % low < n) (sym e) (field_below v w width low p q) in
    omega (arith, times, below)

-- the same at 32 bits
pub word_fits : (v w to count low width high : ℕ) → to + count ≤ 32 → low ≡ 2 ^ to → width ≡ 2 ^ count → high ≡ 2 ^ (to + count) → 0 < low → 0 < width → 0 < high → w < 2 ^ 32 → w / high * high + v % width * low + w % low < 2 ^ 32
word_fits v w to count low width high le l m h p q r lt =
    let product : high ≡ width * low = h ∙ pow-add 2 to count ∙ swap (2 ^ to) (2 ^ count) ∙ ap (λ n. n * 2 ^ to) (sym m) ∙ ap (λ n. width * n) (sym l) in
    let whole : 2 ^ (32 - (to + count)) * high ≡ 2 ^ 32 = ap (λ n. 2 ^ (32 - (to + count)) * n) h ∙ sym (pow-add 2 (32 - (to + count)) (to + count)) ∙ ap (λ n. 2 ^ n) (back to count le) in
    subst (λ n. w / high * high + v % width * low + w % low < n) whole
    (word_below v w width low high (2 ^ (32 - (to + count))) q p r product (subst (λ n. w < n) (sym whole) lt))
  where
    swap : (a b : ℕ) → a * b ≡ b * a
    swap a b = omega arith

    back : (a b : ℕ) → a + b ≤ 32 → 32 - (a + b) + (a + b) ≡ 32
    back a b h = omega arith

-- the number in one byte
pub one_byte : (bytes : List ℕ) (at b : ℕ) → at < length bytes → b ≡ slice_index bytes at → b ≡ number_at 1 bytes at
one_byte bytes at b lt e =
    let here : slice_index (drop at bytes) 0 ≡ slice_index bytes (at + 0) = get_or-drop at bytes 0 0 in
    let same : slice_index bytes (at + 0) ≡ slice_index bytes at = ap (slice_index bytes) (there at) in
    omega (arith, e, here, same)
  where
    there : (n : ℕ) → n + 0 ≡ n
    there n = omega arith
