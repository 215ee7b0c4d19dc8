use Rattle.std.proofs.Common.{◌∙◌, sym, ap, ℕ, pos, ◌+ℤ◌, FitsSigned, w64}
use Rattle.std.proofs.lemmas.Int.{to_z-of_z}
use Rattle.cap_layout.specs.Points.{wrapped}
use Rattle.cap_table.proofs.BodyNumbers.{wrapped_is}
use Rattle.cap_table.proofs.meaning.fixed_value.Goals as goal

pub returns : goal.returns
returns c =
    let fits : FitsSigned w64 c.args.addend = c.ranges.addend in
    let sum = simp to_z-of_z at c.wrapping_add_signed.ensures in
    sum ∙ sym (wrapped_is c.fixed_base.result c.args.addend c.fixed_base.type_inv fits) ∙ ap (λ (n : ℕ). wrapped (pos n +ℤ c.args.addend)) c.fixed_base.ensures
