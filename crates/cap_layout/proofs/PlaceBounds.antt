-- How large the alignment and the padded size of a piece can be.
use Rattle.std.proofs.Common.{◌≡◌, ℕ, ◌+◌, ◌*◌, ◌/◌, ◌%◌, ◌^◌, ◌<◌, ◌≤◌, Bool, true, false, cond, IsTrue, arith, ap, sym, subst, refl, ⊎_elim}
use Rattle.std.specs.Int.{is_power_of_two}
use Rattle.std.specs.Int.RustNames.{count_ones}
use Rattle.std.proofs.lemmas.Bool.{eqb-true, cases_lt}
use Rattle.std.proofs.lemmas.Nat.{ones_cat, zero_from_ones, div-add-mod'}
use Rattle.cap_conc.specs.Computed.{representable_length}
use Rattle.cap_conc.proofs.ComputedLemmas.{representable_length-mono}
use Rattle.cap_elf.specs.Classes.{is_split}
use Rattle.cap_layout.specs.declared.piece.Piece.{Piece}
use Rattle.cap_layout.specs.IsPiece.{IsPiece}

-- a power of two of 64 bits
pub power_high : (a : ℕ) → IsTrue (is_power_of_two a) → a < 2 ^ 64 → a ≤ 2 ^ 63
power_high a power fits =
    let one : count_ones a ≡ 1 = eqb-true (count_ones a) 1 power in
    let whole : a / 2 ^ 63 * 2 ^ 63 + a % 2 ^ 63 ≡ a = div-add-mod' a (2 ^ 63) in
    let parts : count_ones (a / 2 ^ 63 * 2 ^ 63 + a % 2 ^ 63) ≡ count_ones (a / 2 ^ 63) + count_ones (a % 2 ^ 63) = ones_cat 63 (a / 2 ^ 63) (a % 2 ^ 63) (omega arith) in
    let sum : count_ones (a / 2 ^ 63 * 2 ^ 63 + a % 2 ^ 63) ≡ count_ones a = ap count_ones whole in
    ⊎_elim
    (λ (h : 0 < count_ones (a / 2 ^ 63)). let rest : a % 2 ^ 63 ≡ 0 = zero_from_ones (a % 2 ^ 63) (omega (arith, one, parts, sum, h)) in omega (arith, rest, fits))
    (λ (h : count_ones (a / 2 ^ 63) ≤ 0). let none : a / 2 ^ 63 ≡ 0 = zero_from_ones (a / 2 ^ 63) (omega (arith, h)) in omega (arith, none))
    (cases_lt 0 (count_ones (a / 2 ^ 63)))

pub power_some : (a : ℕ) → IsTrue (is_power_of_two a) → 0 < a
unfolding count_ones
power_some a power =
    let one : count_ones a ≡ 1 = eqb-true (count_ones a) 1 power in
    ⊎_elim
    (λ (h : 0 < a). h)
    (λ (h : a ≤ 0). let none : a ≡ 0 = omega (arith, h) in let zeros : count_ones a ≡ 0 = ap count_ones none in absurd (omega (arith, one, zeros)))
    (cases_lt 0 a)

whole_length : representable_length (2 ^ 62) ≡ 2 ^ 62
unfolding representable_length lib.Count.count_leading_zeros
whole_length = refl

length_high : (size : ℕ) → size ≤ 2 ^ 62 → representable_length size ≤ 2 ^ 62
length_high size high =
    subst (λ n. representable_length size ≤ n) whole_length (representable_length-mono size (2 ^ 62) high)

either_high : (b : Bool) (size : ℕ) → size ≤ 2 ^ 62 → cond b (representable_length size) size ≤ 2 ^ 62
either_high true size high = length_high size high
either_high false size high = high

pub padded_high : (p : Piece) → IsPiece p → p.padded ≤ 2 ^ 62
padded_high p h =
    subst (λ n. n ≤ 2 ^ 62) (sym h.padded) (either_high (is_split p.class) p.size h.size_high)
