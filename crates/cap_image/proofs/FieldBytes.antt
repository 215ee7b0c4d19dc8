-- The bytes of a field are those of its number.
use Rattle.std.proofs.Common.{◌≡◌, ℕ, zero, suc, ◌+◌, ◌*◌, ◌/◌, ◌%◌, ◌^◌, ◌<◌, ◌≤◌, List, [], ◌∷◌, ◌++◌, length, get_or, take, drop, refl, sym, ap, subst, ◌∙◌, ⊎_elim, arith}
use Rattle.std.specs.Prelude.{slice_index}
use Rattle.std.specs.Int.{byte_at, bytes_low_first}
use Rattle.std.proofs.Math.Nat.{div-div-eq-div-mul, pow-suc}
use Rattle.std.proofs.Math.Seq.{drop-cons, take-add}
use Rattle.std.proofs.lemmas.Bool.{cases_lt}
use Rattle.std.proofs.lemmas.List.{get_or-drop, get_or-take, length-drop, length-take}
use Rattle.byteorder.specs.Endian.{little_from}
use Rattle.cap_base.specs.Field.{number_at, number_bytes}
use Rattle.cap_image.specs.Records.{piece}
use Rattle.cap_image.specs.Writing.{field_bytes}
use Rattle.cap_image.specs.Accepted.{AreBytes, FieldsAreNumbers}

-- byte j of a number
byte : (j x : ℕ) → byte_at j x ≡ x / 256 ^ j % 256
byte zero x = let one : x / 1 ≡ x = omega arith in ap (λ (y : ℕ). y % 256) (sym one)
byte (suc j) x = refl

-- the lowest byte of a number, and the number of those above it
lowest : (low high : ℕ) → low < 256 → (low + 256 * high) % 256 ≡ low
lowest low high h = omega arith

above : (low high : ℕ) → low < 256 → (low + 256 * high) / 256 ≡ high
above low high h = omega arith

over_one : (x : ℕ) → x / 256 ^ 0 ≡ x
over_one x = omega arith

-- n bytes from one on are bytes j and on of a number that has theirs there
bytes_from : (xs : List ℕ) (i j n x : ℕ) → AreBytes xs → i + n ≤ length xs → x / 256 ^ j ≡ little_from i n xs → bytes_low_first j n x ≡ take n (drop i xs)
bytes_from xs i j zero x are inside e = refl
bytes_from xs i j (suc n) x are inside e =
    let b = get_or xs i 0 in
    let low : b < 256 = are i in
    let first : byte_at j x ≡ b = byte j x ∙ ap (λ (y : ℕ). y % 256) e ∙ lowest b (little_from (suc i) n xs) low in
    let next : x / 256 ^ suc j ≡ little_from (suc i) n xs =
    ap (λ (p : ℕ). x / p) (pow-suc 256 j) ∙ sym (div-div-eq-div-mul x (256 ^ j) 256) ∙ ap (λ (y : ℕ). y / 256) e ∙ above b (little_from (suc i) n xs) low in
    ap (λ (y : ℕ). y ∷ bytes_low_first (suc j) n x) first
    ∙ ap (λ (ys : List ℕ). b ∷ ys) (bytes_from xs (suc i) (suc j) n x are (omega (arith, inside)) next)
    ∙ sym (ap (take (suc n)) (drop-cons xs i 0 (omega (arith, inside))))

bytes_behind : (bytes : List ℕ) (at : ℕ) → AreBytes bytes → AreBytes (drop at bytes)
bytes_behind bytes at are i = subst (λ (x : ℕ). x < 256) (sym (get_or-drop at bytes i 0)) (are (at + i))

past_end : (xs : List ℕ) (i : ℕ) → length xs ≤ i → slice_index xs i ≡ 0
past_end [] i h = refl
past_end (x ∷ xs) zero h = absurd (omega (arith, h))
past_end (x ∷ xs) (suc i) h = past_end xs i (omega (arith, h))

bytes_before : (xs : List ℕ) (n : ℕ) → AreBytes xs → AreBytes (take n xs)
bytes_before xs n are i = ⊎_elim
    (λ (h : i < n). subst (λ (x : ℕ). x < 256) (sym (get_or-take n xs i 0 h)) (are i))
    (λ (h : n ≤ i).
    let count = length-take n xs in
    let none : slice_index (take n xs) i ≡ 0 = past_end (take n xs) i (omega (arith, count, h)) in
    subst (λ (x : ℕ). x < 256) (sym none) (omega arith))
    (cases_lt i n)

-- the bytes of a piece
pub piece_bytes : (bytes : List ℕ) (at n : ℕ) → AreBytes bytes → AreBytes (piece bytes at n)
piece_bytes bytes at n are = bytes_before (drop at bytes) n (bytes_behind bytes at are)

-- a field holds the bytes of its number
field_is : (bytes : List ℕ) (at n : ℕ) → AreBytes bytes → at + n ≤ length bytes → number_bytes n (number_at n bytes at) ≡ piece bytes at n
field_is bytes at n are inside =
    let rest = length-drop at bytes in
    bytes_from (drop at bytes) 0 0 n (number_at n bytes at) (bytes_behind bytes at are) (omega (arith, rest, inside)) (over_one (number_at n bytes at))

pub fields_are : FieldsAreNumbers
fields_are bytes others at other n are these inside within same =
    sym (field_is bytes at n are inside) ∙ ap (number_bytes n) same ∙ field_is others other n these within

-- the bytes up to the end of a piece, and of a field
pub up_to_piece : (bytes : List ℕ) (at n : ℕ) → take (at + n) bytes ≡ take at bytes ++ piece bytes at n
up_to_piece bytes at n = take-add at n bytes

up_to_field : (bytes : List ℕ) (at n : ℕ) → AreBytes bytes → at + n ≤ length bytes → take (at + n) bytes ≡ take at bytes ++ field_bytes n (number_at n bytes at)
unfolding field_bytes
up_to_field bytes at n are inside = take-add at n bytes ∙ ap (λ (xs : List ℕ). take at bytes ++ xs) (sym (field_is bytes at n are inside))

pub to_field : (bytes : List ℕ) (at n end : ℕ) → end ≡ at + n → AreBytes bytes → end ≤ length bytes → take end bytes ≡ take at bytes ++ field_bytes n (number_at n bytes at)
to_field bytes at n end e are inside = ap (λ (k : ℕ). take k bytes) e ∙ up_to_field bytes at n are (omega (arith, e, inside))
