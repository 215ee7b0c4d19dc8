-- Alignments of a page at least.
use Rattle.std.proofs.Common.{◌≡◌, ℕ, ◌+◌, ◌*◌, ◌/◌, ◌%◌, ◌<◌, ◌≤◌, IsTrue, arith, ap, ⊎_elim}
use Rattle.std.specs.Int.{is_power_of_two}
use Rattle.std.specs.Int.RustNames.{count_ones}
use Rattle.std.proofs.lemmas.Bool.{eqb-true, cases_lt}
use Rattle.std.proofs.Math.Nat.{mul_assoc}
use Rattle.std.proofs.lemmas.Nat.{ones_cat, zero_from_ones, div-add-mod'}

-- a power of two that is no less than a page is a multiple of it
pub power_pages : (a : ℕ) → IsTrue (is_power_of_two a) → 4096 ≤ a → a % 4096 ≡ 0
power_pages a power low =
    let one : count_ones a ≡ 1 = eqb-true (count_ones a) 1 power in
    let whole : a / 4096 * 4096 + a % 4096 ≡ a = div-add-mod' a 4096 in
    let parts : count_ones (a / 4096 * 4096 + a % 4096) ≡ count_ones (a / 4096) + count_ones (a % 4096) = ones_cat 12 (a / 4096) (a % 4096) (omega arith) in
    let sum : count_ones (a / 4096 * 4096 + a % 4096) ≡ count_ones a = ap count_ones whole in
    ⊎_elim
    (λ (h : 0 < count_ones (a / 4096)). zero_from_ones (a % 4096) (omega (arith, one, parts, sum, h)))
    (λ (h : count_ones (a / 4096) ≤ 0). let none : a / 4096 ≡ 0 = zero_from_ones (a / 4096) (omega (arith, h)) in absurd (omega (arith, none, low)))
    (cases_lt 0 (count_ones (a / 4096)))

-- and so is each of its multiples
pub multiple_pages : (x a : ℕ) → IsTrue (is_power_of_two a) → 4096 ≤ a → x % a ≡ 0 → x % 4096 ≡ 0
multiple_pages x a power low multiple =
    let pages = power_pages a power low in
    let whole = div-add-mod' x a in
    let fold : a / 4096 * 4096 ≡ a = omega (arith, div-add-mod' a 4096, pages) in
    let apart : x / a * (a / 4096 * 4096) ≡ x / a * a = ap (λ n. x / a * n) fold in
    let joined : (x / a * (a / 4096)) * 4096 ≡ x / a * (a / 4096 * 4096) = mul_assoc (x / a) (a / 4096) 4096 in
    omega (arith, whole, multiple, apart, joined)
