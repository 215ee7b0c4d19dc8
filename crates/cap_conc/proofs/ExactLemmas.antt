-- Exact bounds, over plain numbers.
use Rattle.std.proofs.Common.{zero, suc, ◌↔◌, ◌≡◌, ℕ, ◌+◌, ◌-◌, ◌*◌, ◌/◌, ◌%◌, ◌^◌, ◌<◌, ◌≤◌, inl, inr, sym, ◌∙◌, ap, arith, subst, ⊎_elim, bit_and}
use Rattle.std.proofs.Math.Nat.{mul-le-mul_right, div-add-mod', mod-lt, mul-mod_left, zero-mod, mod-one, mul-mod_right, mod-eq_of_lt}
use Rattle.std.proofs.Math.Pow.{pow_mono}
use Rattle.std.proofs.lemmas.Nat.{pow_pos, pow-add, and_mask, leading_top, div-mul-add}
use Rattle.std.proofs.lemmas.Bool.{cases_lt, cases_eq}
use Rattle.std.proofs.Math.Numerals.{add-one}
use Rattle.std.specs.Int.{next_multiple_of}
use Rattle.cap_conc.specs.Encoding.{width_of, highest_bit}
use Rattle.cap_conc.specs.Exact.{IsHighestBit, IsExact, IsRepresentableLength, IsAlignment, IsRepresentableAlignment}

pow_le : (i j : ℕ) → i ≤ j → 2 ^ i ≤ 2 ^ j
pow_le i j h = pow_mono h

-- a number has one highest bit
IsHighestBit_below : (n m k : ℕ) → m < k → IsHighestBit n m → IsHighestBit n k → m ≡ k
IsHighestBit_below n m k h p q = let l = pow_le (m + 1) k (omega arith) in absurd (omega (arith, p.below, q.reached))

pub IsHighestBit-unique : (n m k : ℕ) → IsHighestBit n m → IsHighestBit n k → m ≡ k
IsHighestBit-unique n m k p q =
    ⊎_elim
    (λ h. IsHighestBit_below n m k h p q)
    (λ (h : k ≤ m). ⊎_elim (λ (l : k < m). sym (IsHighestBit_below n k m l q p)) (λ (l : m ≤ k). omega arith) (cases_lt k m))
    (cases_lt m k)

-- a number fits the width that its highest bit is sought in
lt-pow : (q : ℕ) → q < 2 ^ q
lt-pow zero = omega arith
lt-pow (suc q) =
    let h = lt-pow q in
    let e : 2 ^ (q + 1) ≡ 2 ^ q * 2 = pow-add 2 q 1 in
    let k : q + 1 < 2 ^ (q + 1) = omega (arith, h, e) in
    subst (λ n. n < 2 ^ n) (add-one q) k

below_width : (n : ℕ) → n < 2 ^ width_of n
below_width n =
    let q = n / 2 ^ 128 in
    let h = lt-pow q in
    let e : 2 ^ (128 + q) ≡ 2 ^ 128 * 2 ^ q = pow-add 2 128 q in
    omega (arith, h, e)

-- the computed highest bit is the highest bit
pub IsHighestBit-highest_bit : (n : ℕ) → 0 < n → IsHighestBit n (highest_bit n)
IsHighestBit-highest_bit n some =
    let t = leading_top (width_of n) n some (below_width n) in
    let e : t.0 ≡ highest_bit n = omega (arith, t.1) in
    let at : IsHighestBit n t.0 = record { reached = t.2; below = rw add-one t.3 } in
    subst (IsHighestBit n) e at

pub highest_bit-is : (n m : ℕ) → 0 < n → IsHighestBit n m → highest_bit n ≡ m
highest_bit-is n m some bit =
    IsHighestBit-unique n (highest_bit n) m (IsHighestBit-highest_bit n some) bit

-- the highest bit of a larger number is not below
pub highest_bit_mono : (n o m k : ℕ) → n ≤ o → IsHighestBit n m → IsHighestBit o k → m ≤ k
highest_bit_mono n o m k h p q =
    ⊎_elim
    (λ (l : k < m). let a = pow_le (k + 1) m (omega arith) in absurd (omega (arith, p.reached, q.below)))
    (λ (l : m ≤ k). l)
    (cases_lt k m)

-- a long length has its highest bit at place 12 or above
pub long_bit : (n m : ℕ) → 4096 ≤ n → IsHighestBit n m → 12 ≤ m
long_bit n m h p =
    ⊎_elim
    (λ (l : m < 12). let a : 2 ^ (m + 1) ≤ 2 ^ 12 = pow_le (m + 1) 12 (omega arith) in absurd (omega (arith, p.below)))
    (λ (l : 12 ≤ m). l)
    (cases_lt m 12)

-- the powers about a highest bit at place m, of which g is the grain
pub grains : (m g : ℕ) → 12 ≤ m → g ≡ 2 ^ (m - 9) → (2 ^ m ≡ 512 * g) × (2 ^ (m + 1) ≡ 1024 * g) × (2 ^ (m + 1 + 1) ≡ 2048 * g) × (0 < g)
grains m g h e =
    let a : m - 9 + 9 ≡ m = omega arith in
    let b : 2 ^ (m - 9 + 9) ≡ 2 ^ (m - 9) * 512 = pow-add 2 (m - 9) 9 in
    let c : 2 ^ m ≡ 2 ^ (m - 9) * 512 = ap (λ x. 2 ^ x) (sym a) ∙ b in
    let d : 2 ^ (m + 1) ≡ 2 ^ m * 2 = pow-add 2 m 1 in
    let f : 2 ^ (m + 1 + 1) ≡ 2 ^ (m + 1) * 2 = pow-add 2 (m + 1) 1 in
    let p = pow_pos (m - 9) in
    (omega arith, omega arith, omega arith, omega arith)

-- a length rounded up to multiples of its grain
module _ (n m g r : ℕ) (long : 4096 ≤ n) (bit : IsHighestBit n m) (is : g ≡ 2 ^ (m - 9)) (rounded : r ≡ (n + (g - 1)) / g * g) where
  high : 12 ≤ m
  high = long_bit n m long bit

  pub rounded_bounds : (n ≤ r) × (r < n + g) × (r ≤ 1024 * g)
  rounded_bounds =
      let s = grains m g high is in
      let p = div-add-mod' (n + (g - 1)) g in
      let q = mod-lt (n + (g - 1)) s.3 in
      let below = bit.below in
      let top : r ≤ 1024 * g = ⊎_elim
      (λ (h : (n + (g - 1)) / g < 1025). let k : (n + (g - 1)) / g * g ≤ 1024 * g = mul-le-mul_right g (omega arith) in omega arith)
      (λ (h : 1025 ≤ (n + (g - 1)) / g). let k : 1025 * g ≤ (n + (g - 1)) / g * g = mul-le-mul_right g h in absurd (omega arith))
      (cases_lt ((n + (g - 1)) / g) 1025) in
      (omega arith, omega arith, top)

  rounded_multiple : r % g ≡ 0
  rounded_multiple = ap (λ x. x % g) rounded ∙ mul-mod_left ((n + (g - 1)) / g) g

  rounded_exact : IsExact 0 r
  rounded_exact =
      let s = grains m g high is in
      let b = rounded_bounds in
      let reached = bit.reached in
      inr (⊎_elim
      (λ (h : r < 1024 * g). (m, record { reached = omega arith; below = omega arith }, zero-mod (2 ^ (m - 9)), subst (λ x. r % x ≡ 0) is rounded_multiple))
      (λ (h : 1024 * g ≤ r).
      let a : m + 1 - 9 ≡ m - 9 + 1 = omega (arith, high) in
      let d : 2 ^ (m - 9 + 1) ≡ 2 ^ (m - 9) * 2 = pow-add 2 (m - 9) 1 in
      let f : 2 ^ (m + 1 - 9) ≡ 2 ^ (m - 9) * 2 = ap (λ x. 2 ^ x) a ∙ d in
      let q : r ≡ 512 * 2 ^ (m + 1 - 9) = omega arith in
      (m + 1, record { reached = omega arith; below = omega arith }, zero-mod (2 ^ (m + 1 - 9)), ap (λ x. x % 2 ^ (m + 1 - 9)) q ∙ mul-mod_left 512 (2 ^ (m + 1 - 9))))
      (cases_lt r (1024 * g)))

  rounded_least : (k : ℕ) → n ≤ k → IsExact 0 k → r ≤ k
  rounded_least k h (inl l) = absurd (omega arith)
  rounded_least k h (inr (o, at, _, whole)) =
      ⊎_elim
      (λ (l : k < r).
      let s = grains m g high is in
      let b = rounded_bounds in
      let reached = bit.reached in
      let same : m ≡ o = IsHighestBit-unique k m o (record { reached = omega arith; below = omega arith }) at in
      let multiple : k % g ≡ 0 = subst (λ x. k % x ≡ 0) (sym (is ∙ ap (λ x. 2 ^ (x - 9)) same)) whole in
      let p = div-add-mod' k g in
      ⊎_elim
      (λ (f : k / g < (n + (g - 1)) / g). let c : (k / g + 1) * g ≤ (n + (g - 1)) / g * g = mul-le-mul_right g (omega arith) in absurd (omega arith))
      (λ (f : (n + (g - 1)) / g ≤ k / g). let c : (n + (g - 1)) / g * g ≤ k / g * g = mul-le-mul_right g f in absurd (omega arith))
      (cases_lt (k / g) ((n + (g - 1)) / g)))
      (λ (l : r ≤ k). l)
      (cases_lt k r)

  pub IsRepresentableLength-rounded : IsRepresentableLength n r
  IsRepresentableLength-rounded = record { exact = rounded_exact; enough = rounded_bounds.0; least = rounded_least }

-- rounding up, in one form and in the other
pub rounded-same : (n g : ℕ) → 0 < g → next_multiple_of n g ≡ (n + (g - 1)) / g * g
rounded-same n g some =
    let split : n / g * g + n % g ≡ n = div-add-mod' n g in
    elim (cases_eq (n % g) 0) [
      | inl none ↦
          let whole : g - n % g ≡ g * 1 = omega (arith, none) in
          let nothing : (g - n % g) % g ≡ 0 = ap (λ k. k % g) whole ∙ mul-mod_right g 1 in
          let less : g - 1 < g = omega (arith, some) in
          let sum : n + (g - 1) ≡ n / g * g + (g - 1) = omega (arith, split, none) in
          let down : (n + (g - 1)) / g ≡ n / g = ap (λ k. k / g) sum ∙ div-mul-add (n / g) g (g - 1) less in
          let same : next_multiple_of n g ≡ n / g * g = omega (arith, nothing, split, none) in
          same ∙ ap (λ k. k * g) (sym down)
      | inr rest ↦
          let low : n % g < g = mod-lt n some in
          let small : g - n % g < g = omega (arith, rest, some) in
          let kept : (g - n % g) % g ≡ g - n % g = mod-eq_of_lt small in
          let less : n % g - 1 < g = omega (arith, low) in
          let sum : n + (g - 1) ≡ (n / g + 1) * g + (n % g - 1) = omega (arith, split, rest, some) in
          let up : (n + (g - 1)) / g ≡ n / g + 1 = ap (λ k. k / g) sum ∙ div-mul-add (n / g + 1) g (n % g - 1) less in
          let same : next_multiple_of n g ≡ (n / g + 1) * g = omega (arith, kept, split, low) in
          same ∙ ap (λ k. k * g) (sym up)
    ]

-- a test of both bounds against the grain
pub IsExact-of_grain : (base n m g : ℕ) → IsHighestBit n m → g ≡ 2 ^ (m - 9) → base % g ≡ 0 → n % g ≡ 0 → IsExact base n
IsExact-of_grain base n m g bit is b l = inr (m, bit, subst (λ x. base % x ≡ 0) is b, subst (λ x. n % x ≡ 0) is l)

pub grain-IsExact : (base n m g : ℕ) → 4096 ≤ n → IsHighestBit n m → g ≡ 2 ^ (m - 9) → IsExact base n → (base % g ≡ 0) × (n % g ≡ 0)
grain-IsExact base n m g long bit is (inl l) = absurd (omega arith)
grain-IsExact base n m g long bit is (inr (o, at, b, l)) =
    let same : 2 ^ (o - 9) ≡ g = ap (λ x. 2 ^ (x - 9)) (IsHighestBit-unique n o m at bit) ∙ sym is in
    (subst (λ x. base % x ≡ 0) same b, subst (λ x. n % x ≡ 0) same l)

-- a mask below the grain
pub grain_mask : (x m g : ℕ) → g ≡ 2 ^ (m - 9) → bit_and x (g - 1) ≡ x % g
grain_mask x m g is = ap (λ y. bit_and x (y - 1)) is ∙ and_mask x (m - 9) ∙ ap (λ y. x % y) (sym is)

-- ---- the laws of rounding

pub IsRepresentableLength-mono : (l k m n : ℕ) → l ≤ k → IsRepresentableLength l m → IsRepresentableLength k n → m ≤ n
IsRepresentableLength-mono l k m n h p q = p.least n (omega (arith, q.enough)) q.exact

pub IsRepresentableLength-unique : (l m n : ℕ) → IsRepresentableLength l m → IsRepresentableLength l n → m ≡ n
IsRepresentableLength-unique l m n p q =
    let a = IsRepresentableLength-mono l l m n (omega arith) p q in
    let b = IsRepresentableLength-mono l l n m (omega arith) q p in
    omega arith

pub IsAlignment-mono : (m n a b : ℕ) → m ≤ n → IsAlignment m a → IsAlignment n b → a ≤ b
IsAlignment-mono m n a b h (inl p) (inl q) = omega arith
IsAlignment-mono m n a b h (inl p) (inr (o, at, long, is)) = omega (arith, pow_pos (o - 9))
IsAlignment-mono m n a b h (inr (o, at, long, is)) (inl q) = absurd (omega arith)
IsAlignment-mono m n a b h (inr (o, at, long, is)) (inr (o', at', long', is')) =
    let c = highest_bit_mono m n o o' h at at' in
    let d = pow_le (o - 9) (o' - 9) (omega arith) in
    omega arith

pub IsExact-aligned : (base n a : ℕ) → IsExact 0 n → IsAlignment n a → (n % a ≡ 0) × (IsExact base n → base % a ≡ 0) × (base % a ≡ 0 → IsExact base n)
IsExact-aligned base n a e (inl (short, is)) =
    (subst (λ x. n % x ≡ 0) (sym is) (mod-one n), λ _. subst (λ x. base % x ≡ 0) (sym is) (mod-one base), λ _. inl short)
IsExact-aligned base n a e (inr (m, bit, long, is)) =
    let both = grain-IsExact 0 n m a long bit is e in
    (both.1, λ h. (grain-IsExact base n m a long bit is h).0, λ h. IsExact-of_grain base n m a bit is h both.1)

pub IsRepresentableAlignment-divides : (l a n : ℕ) → IsRepresentableAlignment l a → IsRepresentableLength l n → n % a ≡ 0
IsRepresentableAlignment-divides l a n (m, p, q) h =
    subst (λ x. x % a ≡ 0) (IsRepresentableLength-unique l m n p h) (IsExact-aligned 0 m a p.exact q).0

pub IsRepresentableAlignment-exact : (l a base n : ℕ) → IsRepresentableAlignment l a → IsRepresentableLength l n → IsExact base n ↔ (base % a ≡ 0)
IsRepresentableAlignment-exact l a base n (m, p, q) h =
    let e = IsRepresentableLength-unique l m n p h in
    let f = IsExact-aligned base m a p.exact q in
    subst (λ x. IsExact base x ↔ (base % a ≡ 0)) e (f.1, f.2)

pub IsRepresentableAlignment-mono : (l k a b : ℕ) → l ≤ k → IsRepresentableAlignment l a → IsRepresentableAlignment k b → a ≤ b
IsRepresentableAlignment-mono l k a b h (m, p, q) (n, r, s) =
    IsAlignment-mono m n a b (IsRepresentableLength-mono l k m n h p r) q s
