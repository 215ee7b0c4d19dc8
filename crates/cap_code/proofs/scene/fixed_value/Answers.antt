use Rattle.std.proofs.Common.{◌+◌, ◌%◌, ◌^◌, pos, ◌+ℤ◌, ap, ◌∙◌}
use Rattle.std.specs.Int.{cast_unsigned, w64}
use Rattle.std.proofs.lemmas.Int.{to_z-of_z}
use Rattle.cap_layout.specs.Points.{wrapped}
use Rattle.cap_code.proofs.Sums.{wrapped_sum}
use Rattle.cap_code.proofs.scene.fixed_value.Goals as goal

pub returns : goal.returns
returns c =
    c.wrapping_add_signed.ensures
    ∙ ap (λ z. (c.value_of.result + cast_unsigned w64 z) % 2 ^ 64) (to_z-of_z w64 c.args.addend c.ranges.addend)
    ∙ wrapped_sum c.value_of.result c.args.addend c.ranges.addend
    ∙ ap (λ v. wrapped (pos v +ℤ c.args.addend)) c.value_of.ensures
