-- Multiples of powers of two.
use Rattle.std.proofs.Common.{◌≡◌, ℕ, ◌+◌, ◌-◌, ◌*◌, ◌/◌, ◌%◌, ◌^◌, ◌<◌, ◌≤◌, true, IsTrue, arith, sym, ap, ◌∙◌, subst, ⊎_elim, inl, inr}
use Rattle.std.specs.Int.{is_power_of_two}
use Rattle.std.specs.Int.RustNames.{count_ones}
use Rattle.std.proofs.Math.Nat.{mod-lt, mul_assoc, mul_comm, mul-mod_right, mul-add-mod_self_right}
use Rattle.std.proofs.lemmas.Bool.{eqb-true, cases_lt}
use Rattle.std.proofs.lemmas.Nat.{ones_cat, pow_pos, zero_from_ones, div-add-mod'}
use Rattle.cap_conc.specs.Exact.{IsAlignment}
use Rattle.cap_conc.specs.Computed.{is_exact, representable_length, representable_alignment}
use Rattle.cap_conc.proofs.ComputedLemmas.{IsRepresentableLength-computed, IsRepresentableLength-only, IsRepresentableAlignment-computed, is_exact-representable}

not_whole : (q n r a : ℕ) → q * n + r ≡ a → q ≡ 0 → r < n → n ≤ a → ⊥
not_whole q n r a is none low high = let zeros : q * n ≡ 0 * n = ap (λ m. m * n) none in omega (arith, is, zeros, low, high)

-- a power of two that is not below another is a multiple of it
pub power_multiple : (j a : ℕ) → IsTrue (is_power_of_two a) → 2 ^ j ≤ a → a % 2 ^ j ≡ 0
power_multiple j a power high =
    let one : count_ones a ≡ 1 = eqb-true (count_ones a) 1 power in
    let low : a % 2 ^ j < 2 ^ j = mod-lt a (pow_pos j) in
    let whole : a / 2 ^ j * 2 ^ j + a % 2 ^ j ≡ a = div-add-mod' a (2 ^ j) in
    let parts : count_ones (a / 2 ^ j * 2 ^ j + a % 2 ^ j) ≡ count_ones (a / 2 ^ j) + count_ones (a % 2 ^ j) = ones_cat j (a / 2 ^ j) (a % 2 ^ j) low in
    let sum : count_ones (a / 2 ^ j) + count_ones (a % 2 ^ j) ≡ 1 = sym parts ∙ ap count_ones whole ∙ one in
    ⊎_elim
    (λ (h : 0 < count_ones (a / 2 ^ j)). zero_from_ones (a % 2 ^ j) (rest (count_ones (a / 2 ^ j)) (count_ones (a % 2 ^ j)) sum h))
    (λ (h : count_ones (a / 2 ^ j) ≤ 0). let none : a / 2 ^ j ≡ 0 = zero_from_ones (a / 2 ^ j) (nothing (count_ones (a / 2 ^ j)) h) in absurd (not_whole (a / 2 ^ j) (2 ^ j) (a % 2 ^ j) a whole none low high))
    (cases_lt 0 (count_ones (a / 2 ^ j)))
  where
    rest : (m n : ℕ) → m + n ≡ 1 → 0 < m → n ≡ 0
    rest m n sum some = omega (arith, sum, some)

    nothing : (m : ℕ) → m ≤ 0 → m ≡ 0
    nothing m le = omega (arith, le)

left_whole : (m r x : ℕ) → m + r ≡ x → r ≡ 0 → x ≡ m
left_whole m r x is none = omega (arith, is, none)

whole_of : (x a : ℕ) → x % a ≡ 0 → x ≡ x / a * a
whole_of x a h = left_whole (x / a * a) (x % a) x (div-add-mod' x a) h

-- a multiple of a multiple
pub multiple_trans : (x a n : ℕ) → x % a ≡ 0 → a % n ≡ 0 → x % n ≡ 0
multiple_trans x a n h k =
    let is : x ≡ n * (x / a * (a / n)) = whole_of x a h ∙ ap (λ m. x / a * m) (whole_of a n k) ∙ sym (mul_assoc (x / a) (a / n) n) ∙ mul_comm (x / a * (a / n)) n in
    ap (λ m. m % n) is ∙ mul-mod_right n (x / a * (a / n))

pub product_multiple : (k a n : ℕ) → a % n ≡ 0 → (k * a) % n ≡ 0
product_multiple k a n h = multiple_trans (k * a) a n (ap (λ m. m % a) (mul_comm k a) ∙ mul-mod_right a k) h

pub sum_multiple : (x y n : ℕ) → x % n ≡ 0 → y % n ≡ 0 → (x + y) % n ≡ 0
sum_multiple x y n h k = ap (λ m. (m + y) % n) (whole_of x n h) ∙ mul-add-mod_self_right (x / n) n y ∙ k

-- ---- representable alignments
exponent : (length alignment : ℕ) → IsAlignment length alignment → (j : ℕ) × (alignment ≡ 2 ^ j)
exponent length alignment (inl h) = (0, h.1)
exponent length alignment (inr h) = (h.0 - 9, h.3)

-- a power of two that is not below a representable alignment is a multiple of it
pub alignment_multiple : (size a : ℕ) → IsTrue (is_power_of_two a) → representable_alignment size ≤ a → a % representable_alignment size ≡ 0
alignment_multiple size a power high =
    let computed = IsRepresentableAlignment-computed size in
    let j = exponent computed.0 (representable_alignment size) computed.2 in
    subst (λ n. n ≤ a → a % n ≡ 0) (sym j.1) (power_multiple j.0 a power) high

-- a length that was rounded is rounded already
pub rounded_again : (wanted : ℕ) → representable_length (representable_length wanted) ≡ representable_length wanted
rounded_again wanted =
    let rounded = representable_length wanted in
    sym ((IsRepresentableLength-only rounded rounded).0 (record { exact = (IsRepresentableLength-computed wanted).exact; enough = omega arith; least = λ k le _. le }))

-- at multiples of two powers of two that are not below the representable alignment, a rounded length is exact
pub exact_at : (size align whole k at : ℕ) → IsTrue (is_power_of_two align) → IsTrue (is_power_of_two whole) → representable_alignment size ≤ align → align ≤ whole → at % align ≡ 0 → is_exact (k * whole + at) (representable_length size) ≡ true
exact_at size align whole k at align_power whole_power le high multiple =
    let n = representable_alignment size in
    let own : align % n ≡ 0 = alignment_multiple size align align_power le in
    let all : whole % n ≡ 0 = alignment_multiple size whole whole_power (omega (arith, le, high)) in
    (is_exact-representable (k * whole + at) size).1 (sum_multiple (k * whole) at n (product_multiple k whole n all) (multiple_trans at align n multiple own))

pub exact_from : (size whole k : ℕ) → IsTrue (is_power_of_two whole) → representable_alignment size ≤ whole → is_exact (k * whole) (representable_length size) ≡ true
exact_from size whole k power le =
    (is_exact-representable (k * whole) size).1 (product_multiple k whole (representable_alignment size) (alignment_multiple size whole power le))
