-- Sums modulo 2 ^ 64 of an unsigned number and a signed one.
use Rattle.std.proofs.Common.{◌≡◌, ⊎_elim, ℕ, suc, ◌+◌, ◌-◌, ◌%◌, ◌^◌, ◌<◌, ◌≤◌, ℤ, pos, negsuc, ◌+ℤ◌, FitsSigned, cond, ltb, refl, sym, ap, ◌∙◌, arith}
use Rattle.std.proofs.lemmas.Bool.{lt-ltb, le-ltb, cases_lt}
use Rattle.std.specs.Int.{cast_unsigned, w64}
use Rattle.std.proofs.lemmas.Int.{ints}
use Rattle.cap_layout.specs.Points.{wrapped}

-- what is taken away is at most the number, or more
under : (value n : ℕ) → suc n ≤ value → suc n ≤ 2 ^ 64 → (value + (2 ^ 64 - suc n)) % 2 ^ 64 ≡ (value - suc n) % 2 ^ 64
under value n le few = omega (arith, le, few)

over : (value n : ℕ) → value < suc n → suc n ≤ 2 ^ 64 → (value + (2 ^ 64 - suc n)) % 2 ^ 64 ≡ (2 ^ 64 - suc (suc n - suc value)) % 2 ^ 64
over value n lt few = omega (arith, lt, few)

taken : (value n : ℕ) → suc n ≤ 2 ^ 64 → (value + (2 ^ 64 - suc n)) % 2 ^ 64 ≡ wrapped (cond (ltb value (suc n)) (negsuc (suc n - suc value)) (pos (value - suc n)))
taken value n few =
    ⊎_elim
    (λ (lt : value < suc n). over value n lt few ∙ ap (λ b. wrapped (cond b (negsuc (suc n - suc value)) (pos (value - suc n)))) (sym (lt-ltb value (suc n) lt)))
    (λ (le : suc n ≤ value). under value n le few ∙ ap (λ b. wrapped (cond b (negsuc (suc n - suc value)) (pos (value - suc n)))) (sym (le-ltb value (suc n) le)))
    (cases_lt value (suc n))

pub wrapped_sum : (value : ℕ) (addend : ℤ) → FitsSigned w64 addend → (value + cast_unsigned w64 addend) % 2 ^ 64 ≡ wrapped (pos value +ℤ addend)
wrapped_sum value (pos n) fits = refl
wrapped_sum value (negsuc n) fits = taken value n (omega (arith, ints, fits))
