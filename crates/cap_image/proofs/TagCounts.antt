-- How many of the first granules are tagged.
use lib.Count.{ones_step}
use Rattle.std.specs.Prelude.{slice_index}
use Rattle.std.specs.List.{range_with_len}
use Rattle.std.proofs.Common.{◌≡◌, ℕ, zero, suc, ◌+◌, ◌*◌, ◌/◌, ◌%◌, ◌^◌, ◌<◌, ◌≤◌, ◌==◌, List, [], ◌∷◌, length, map, count_ones, Bool, true, false, cond, refl, sym, ap, ◌∙◌, arith}
use Rattle.std.proofs.Math.Nat.{div-one, div-div-eq-div-mul, pow-suc}
use Rattle.std.proofs.lemmas.Nat.{ones_le_self}
use Rattle.std.proofs.lemmas.List.{length-append}
use Rattle.std.proofs.lemmas.List.Sums.{count_by-le-length}
use Rattle.std.proofs.lemmas.List.FromFn.{sum_by-map-range_with_len_more, length-map-range_with_len}
use Rattle.cap_image.specs.Parts.{ImageObject, IsObject, has_tag, tagged_below, tagged_granules}
use Rattle.cap_image.specs.Words.{count_below, tag_count}
use Rattle.cap_image.proofs.TagLemmas.{one_more, tagged_none, granules_tagged}

pub one_counted : (tags : List ℕ) (n : ℕ) → count_below tags (n + 1) ≡ count_below tags n + cond (has_tag tags (16 * n)) 1 0
one_counted tags n = sum_by-map-range_with_len_more (λ y. cond (has_tag tags y) 1 0) (λ i. 16 * i) 0 n n (omega arith)

bit_value : (x : ℕ) → x < 2 → cond (x == 1) 1 0 ≡ x
bit_value zero lt = refl
bit_value (suc zero) lt = refl
bit_value (suc (suc x)) lt = absurd (omega (arith, lt))

abbrev bit_in : List ℕ → ℕ → ℕ → ℕ
bit_in tags byte bit = slice_index tags byte / 2 ^ bit % 2

tag_bit : (tags : List ℕ) (j k : ℕ) → k < 8 → cond (has_tag tags (16 * (8 * j + k))) 1 0 ≡ slice_index tags j / 2 ^ k % 2
tag_bit tags j k lt =
    let byte : 16 * (8 * j + k) / 128 ≡ j = omega arith in
    let bit : 16 * (8 * j + k) / 16 % 8 ≡ k = omega arith in
    let value : bit_in tags (16 * (8 * j + k) / 128) (16 * (8 * j + k) / 16 % 8) ≡ bit_in tags j k = ap (λ b. bit_in tags b (16 * (8 * j + k) / 16 % 8)) byte ∙ ap (bit_in tags j) bit in
    ap (λ x. cond (x == 1) 1 0) value ∙ bit_value (bit_in tags j k) (omega arith)

one_or_none : (b : Bool) (granule : ℕ) → length (cond b (granule ∷ []) []) ≡ cond b 1 0
one_or_none true granule = refl
one_or_none false granule = refl

zero_ones : count_ones 0 ≡ 0
zero_ones = let few : count_ones 0 ≤ 0 = ones_le_self 0 in omega (arith, few)

halved : (b k : ℕ) → b / 2 ^ k / 2 ≡ b / 2 ^ (suc k)
halved b k = div-div-eq-div-mul b (2 ^ k) 2 ∙ ap (λ n. b / n) (sym (pow-suc 2 k))

-- the lowest bits of a tag byte are counted
counted : (tags : List ℕ) (j k : ℕ) → k ≤ 8 → count_below tags (8 * j + k) + count_ones (slice_index tags j / 2 ^ k) ≡ count_below tags (8 * j) + count_ones (slice_index tags j)
counted tags j zero le =
    let start : 8 * j + zero ≡ 8 * j = omega arith in
    let whole : slice_index tags j / 2 ^ zero ≡ slice_index tags j = div-one (slice_index tags j) in
    ap (λ n. count_below tags n + count_ones (slice_index tags j / 2 ^ zero)) start ∙ ap (λ b. count_below tags (8 * j) + count_ones b) whole
counted tags j (suc k) le =
    let next : 8 * j + suc k ≡ 8 * j + k + 1 = omega arith in
    let one : count_below tags (8 * j + suc k) ≡ count_below tags (8 * j + k) + slice_index tags j / 2 ^ k % 2 = ap (count_below tags) next ∙ one_counted tags (8 * j + k) ∙ ap (λ n. count_below tags (8 * j + k) + n) (tag_bit tags j k (omega arith)) in
    let bits : count_ones (slice_index tags j / 2 ^ k) ≡ slice_index tags j / 2 ^ k % 2 + count_ones (slice_index tags j / 2 ^ suc k) = ones_step (slice_index tags j / 2 ^ k) ∙ ap (λ b. slice_index tags j / 2 ^ k % 2 + count_ones b) (halved (slice_index tags j) k) in
    let before : count_below tags (8 * j + k) + count_ones (slice_index tags j / 2 ^ k) ≡ count_below tags (8 * j) + count_ones (slice_index tags j) = counted tags j k (omega arith) in
    omega (arith, one, bits, before)

-- a tag byte more
pub count_more : (tags : List ℕ) (j count : ℕ) → slice_index tags j < 256 → count ≡ count_below tags (8 * j) → count + count_ones (slice_index tags j) ≡ count_below tags (8 * (j + 1))
count_more tags j count lt so_far =
    let none : slice_index tags j / 2 ^ 8 ≡ 0 = omega (arith, lt) in
    let no_ones : count_ones (slice_index tags j / 2 ^ 8) ≡ 0 = ap count_ones none ∙ zero_ones in
    let all : count_below tags (8 * j + 8) + count_ones (slice_index tags j / 2 ^ 8) ≡ count_below tags (8 * j) + count_ones (slice_index tags j) = counted tags j 8 (omega arith) in
    let next : 8 * (j + 1) ≡ 8 * j + 8 = omega arith in
    let to : count_below tags (8 * (j + 1)) ≡ count_below tags (8 * j + 8) = ap (count_below tags) next in
    omega (arith, no_ones, all, so_far, to)

-- no more than there are granules
pub count_few : (tags : List ℕ) (n : ℕ) → count_below tags n ≤ n
count_few tags n =
    let few : count_below tags n ≤ length (map (λ i. 16 * i) (range_with_len 0 n)) = count_by-le-length (has_tag tags) (map (λ i. 16 * i) (range_with_len 0 n)) in
    let all : length (map (λ i. 16 * i) (range_with_len 0 n)) ≡ n = length-map-range_with_len (λ i. 16 * i) 0 n in
    omega (arith, few, all)

-- all ways to count tags agree
pub granules_counted : (base : ℕ) (tags : List ℕ) (n : ℕ) → length (tagged_below base tags n) ≡ count_below tags n
granules_counted base tags zero = ap length (tagged_none base tags)
granules_counted base tags (suc n) =
    let next : suc n ≡ n + 1 = omega arith in
    let more : length (tagged_below base tags (n + 1)) ≡ length (tagged_below base tags n) + cond (has_tag tags (16 * n)) 1 0 = ap length (one_more base tags n) ∙ length-append (tagged_below base tags n) _ ∙ ap (λ k. length (tagged_below base tags n) + k) (one_or_none (has_tag tags (16 * n)) (base + 16 * n)) in
    let before : length (tagged_below base tags n) ≡ count_below tags n = granules_counted base tags n in
    let counts : count_below tags (n + 1) ≡ count_below tags n + cond (has_tag tags (16 * n)) 1 0 = one_counted tags n in
    ap (λ k. length (tagged_below base tags k)) next ∙ omega (arith, more, before, counts) ∙ ap (count_below tags) (sym next)

pub tags_counted : (o : ImageObject) → IsObject o → length (tagged_granules o) ≡ tag_count o.tags
tags_counted o is = ap length (sym (granules_tagged o is)) ∙ granules_counted o.base o.tags (8 * length o.tags)
