-- Numbers from one up to another, one after the other.
use Rattle.std.proofs.Common.{◌≡◌, ℕ, suc, ◌+◌, ◌-◌, ◌<◌, ◌≤◌, zero, List, [], ◌∷◌, ◌++◌, refl, arith}
use Rattle.cap_base.specs.Lists.{numbers_between}

pub numbers_first : (from to : ℕ) → from < to → numbers_between from to ≡ from ∷ numbers_between (from + 1) to
numbers_first from to h = let e : to - from ≡ suc (to - (from + 1)) = omega arith in rw e refl

pub numbers_none : (from to : ℕ) → to ≤ from → numbers_between from to ≡ []
numbers_none from to h = let e : to - from ≡ zero = omega arith in rw e refl
