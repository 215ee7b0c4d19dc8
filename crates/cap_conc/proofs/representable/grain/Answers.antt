use Rattle.std.proofs.Common.{◌-◌, ◌^◌, arith, ap, sym, ◌∙◌}
use Rattle.std.proofs.lemmas.Nat.{one_shl, pow-add}
use Rattle.cap_conc.proofs.ExactLemmas.{highest_bit-is}
use Rattle.cap_conc.proofs.representable.grain.Goals as goal

pub returns-clause-value : goal.returns-clause-value
returns-clause-value c =
    let e = highest_bit-is c.args.len c.ilog2.result (omega arith) (record { reached = c.ilog2.ensures.power_le; below = omega (arith, pow-add 2 c.ilog2.result 1) }) in
    one_shl (c.ilog2.result - 9) 64 (omega arith) ∙ ap (λ x. 2 ^ (x - 9)) (sym e)
