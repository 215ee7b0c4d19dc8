-- Alignments of pieces are powers of two, and not below those of their bounds.
use Rattle.std.proofs.Common.{◌≡◌, ℕ, ◌+◌, ◌*◌, ◌-◌, ◌^◌, ◌<◌, ◌≤◌, max, min, IsTrue, ⊎_elim, refl, sym, ap, ◌∙◌, subst, arith}
use Rattle.std.specs.Prelude.{◌==◌, nat_lt}
use Rattle.std.specs.Int.{is_power_of_two, trailing_zeros, w64}
use Rattle.std.specs.Int.Count.{ones}
use Rattle.std.proofs.lemmas.Bool.{cases_lt, cond_both, eq-eqb}
use Rattle.std.proofs.lemmas.Nat.{ones_cat, pow_pos}
use Rattle.cap_conc.specs.Computed.{representable_length, representable_alignment, grain_of}
use Rattle.cap_conc.specs.Encoding.{highest_bit}
use Rattle.cap_layout.specs.Pieces.{own_alignment}

pub max_right : (a b : ℕ) → b ≤ max a b
max_right a b = omega arith

abbrev pub IsPower : ℕ → Type 0
IsPower n = IsTrue (is_power_of_two n)

ones_one : ones 1 + ones 0 ≡ 1
unfolding ones
ones_one = refl

pub pow_power : (k : ℕ) → IsPower (2 ^ k)
pow_power k =
    let whole : 1 * 2 ^ k + 0 ≡ 2 ^ k = omega arith in
    let one : ones (2 ^ k) ≡ 1 = ap ones (sym whole) ∙ ones_cat k 1 0 (pow_pos k) ∙ ones_one in
    eq-eqb (ones (2 ^ k)) 1 one

one_power : IsPower 1
one_power = pow_power 0

pub max_power : (a b : ℕ) → IsPower a → IsPower b → IsPower (max a b)
max_power a b h k =
    ⊎_elim
    (λ (lt : a < b). let is : b ≡ max a b = omega arith in subst IsPower is k)
    (λ (le : b ≤ a). let is : a ≡ max a b = omega arith in subst IsPower is h)
    (cases_lt a b)

min_power : (a b : ℕ) → IsPower a → IsPower b → IsPower (min a b)
min_power a b h k =
    ⊎_elim
    (λ (lt : a < b). let is : a ≡ min a b = omega arith in subst IsPower is h)
    (λ (le : b ≤ a). let is : b ≡ min a b = omega arith in subst IsPower is k)
    (cases_lt a b)

pub representable_power : (size : ℕ) → IsPower (representable_alignment size)
unfolding representable_alignment
representable_power size =
    cond_both (nat_lt (representable_length size) 4096) 1 (grain_of (representable_length size)) IsPower (λ _. one_power) (λ _. pow_power (highest_bit (representable_length size) - 9))

own_power : (align start : ℕ) → IsPower align → IsPower (own_alignment align start)
own_power align start h =
    cond_both (start == 0) align (min align (2 ^ trailing_zeros w64 start)) IsPower (λ _. h) (λ _. min_power align (2 ^ trailing_zeros w64 start) h (pow_power (trailing_zeros w64 start)))

pub split_power : (align start size : ℕ) → IsPower align → IsPower (max (own_alignment align start) (representable_alignment size))
split_power align start size h = max_power (own_alignment align start) (representable_alignment size) (own_power align start h) (representable_power size)

pub common_power : (align size : ℕ) → IsPower align → IsPower (max align (representable_alignment size))
common_power align size h = max_power align (representable_alignment size) h (representable_power size)
