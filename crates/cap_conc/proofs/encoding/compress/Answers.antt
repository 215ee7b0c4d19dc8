use Rattle.std.proofs.Common.{◌≡◌, ℕ, ◌+◌, ◌-◌, ◌*◌, ◌/◌, ◌%◌, ◌^◌, ◌<◌, bit_and, refl, arith}
use Rattle.std.proofs.lemmas.Nat.{pow-add}
use Rattle.cap_conc.specs.Exact.{IsHighestBit}
use Rattle.cap_conc.specs.Encoding.{compressed}
use Rattle.cap_conc.proofs.ExactLemmas.{long_bit}
use Rattle.cap_conc.proofs.EncodingLemmas.{long_bounds-computed}
use Rattle.cap_conc.proofs.ComputedLemmas.{is_exact-IsExact}
use Rattle.cap_conc.proofs.encoding.compress.Goals as goal
use Rattle.cap_conc.proofs.encoding.compress.Goals.{After-ilog2-exponent, After-from-else-len-lt4096-2}

bit : (c : After-ilog2-exponent) → IsHighestBit c.args.len c.ilog2-exponent.result
bit c = record { reached = c.ilog2-exponent.ensures.power_le; below = omega (arith, pow-add 2 c.ilog2-exponent.result 1) }

pub overflow_sub-exponent : goal.overflow_sub-exponent
overflow_sub-exponent c = long_bit c.args.len _ c.if-len-lt4096.false (bit c)

both : (c : After-from-else-len-lt4096-2) → (z : ℕ) → z ≡ 67108864 + (bit_and ((c.from.result + c.from-2.result) / 2 ^ (c.ilog2-exponent.result - 12)) 4095 + c.from-else-len-lt4096.result) * 16384 % 2 ^ 64 + bit_and (c.args.base / 2 ^ (c.ilog2-exponent.result - 12)) 16383 + c.from-else-len-lt4096-2.result → (z ≡ compressed c.args.base c.args.len) × (z < 2 ^ 27)
both c z e =
    long_bounds-computed c.args.base c.args.len c.ilog2-exponent.result (c.from.result + c.from-2.result) _ _ z c.if-len-lt4096.false (omega arith) (record { reached = c.ilog2-exponent.ensures.power_le; below = omega (arith, pow-add 2 c.ilog2-exponent.result 1) }) ((is_exact-IsExact c.args.base c.args.len).0 c.requires) (omega arith) c.from-else-len-lt4096.ensures c.from-else-len-lt4096-2.ensures e

pub returns-else-len-lt4096-clause-bounds : goal.returns-else-len-lt4096-clause-bounds
returns-else-len-lt4096-clause-bounds c = (both c _ refl).0

pub returns-else-len-lt4096-clause-small : goal.returns-else-len-lt4096-clause-small
returns-else-len-lt4096-clause-small c = (both c _ refl).1
