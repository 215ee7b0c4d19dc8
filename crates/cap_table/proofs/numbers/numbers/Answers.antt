use Rattle.std.proofs.Common.{◌∙◌, ◌≡◌, ℕ, drop, subst, arith}
use Rattle.cap_table.specs.Numbers.{AreNumbersFrom}
use Rattle.cap_table.proofs.FillNumbers.{number_from-index}
use Rattle.cap_table.proofs.numbers.numbers.Goals as goal

pub returns : goal.returns
returns c = λ row.
    let is : c.loop-k.k ≡ 0 = omega arith in
    let from = subst (λ (k : ℕ). AreNumbersFrom k (drop k c.args.rows.now) c.loop-k.by_row.items) is c.loop-k.invariant.numbers in
    from row ∙ number_from-index c.args.rows.now row
