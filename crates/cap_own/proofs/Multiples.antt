-- The next multiple of a number.
use Rattle.std.proofs.Common.{◌≡◌, ℕ, ◌+◌, ◌*◌, ◌/◌, ◌%◌, ◌<◌, ◌≤◌, arith, ⊎_elim}
use Rattle.std.proofs.Math.Nat.{mul-le-mul_right, div-add-mod'}
use Rattle.std.proofs.lemmas.Bool.{cases_lt}
use Rattle.cap_own.specs.Interval.{IsNextMultiple}

-- a multiple less than n above an address is the next one
pub IsNextMultiple-from : (n at x : ℕ) → x % n ≡ 0 → at ≤ x → x < at + n → IsNextMultiple n at x
IsNextMultiple-from n at x multiple from below = record {
  multiple = multiple;
  from = from;
  least = λ y above even.
      let p = div-add-mod' x n in
      let q = div-add-mod' y n in
      ⊎_elim
      (λ (l : y / n < x / n). let k : (y / n + 1) * n ≤ x / n * n = mul-le-mul_right n (omega arith) in absurd (omega arith))
      (λ (l : x / n ≤ y / n). let k : x / n * n ≤ y / n * n = mul-le-mul_right n l in omega arith)
      (cases_lt (y / n) (x / n));
}
