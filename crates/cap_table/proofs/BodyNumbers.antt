-- Sums modulo 2 ^ 64.
use Rattle.std.proofs.Common.{◌≡◌, ℕ, suc, ◌+◌, ◌-◌, ◌%◌, ◌^◌, ◌<◌, ◌≤◌, ⊎_elim, ℤ, pos, negsuc, ◌+ℤ◌, FitsSigned, w64, refl, ap, ◌∙◌, arith}
use Rattle.std.specs.Int.{cast_unsigned}
use Rattle.std.proofs.lemmas.Bool.{cases_lt}
use Rattle.std.proofs.lemmas.Int.{ints}
use Rattle.cap_layout.specs.Points.{wrapped}

-- the sum, computed on numbers of 64 bits
pub wrapped_is : (a : ℕ) (z : ℤ) → a < 2 ^ 64 → FitsSigned w64 z → wrapped (pos a +ℤ z) ≡ (a + cast_unsigned w64 z) % 2 ^ 64
wrapped_is a (pos n) low fits = refl
wrapped_is a (negsuc n) low fits =
    let small : n < 2 ^ 63 = omega (arith, ints, fits) in
    ⊎_elim
    (λ (lt : n < a). let sum : pos a +ℤ negsuc n ≡ pos (a - suc n) = omega (arith, ints, lt) in ap wrapped sum ∙ omega (arith, lt, low, small))
    (λ (le : a ≤ n). let sum : pos a +ℤ negsuc n ≡ negsuc (n - a) = omega (arith, ints, le) in ap wrapped sum ∙ omega (arith, le, low, small))
    (cases_lt n a)
