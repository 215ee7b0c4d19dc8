use Rattle.std.proofs.Common.{◌∙◌, sym, FitsSigned, w64}
use Rattle.std.proofs.lemmas.Int.{to_z-of_z}
use Rattle.cap_layout.proofs.PointNumbers.{wrapped_is}
use Rattle.cap_layout.proofs.points.moved.Goals as goal

pub returns : goal.returns
returns c =
    let fits : FitsSigned w64 c.args.addend = c.ranges.addend in
    let sum = simp to_z-of_z at c.wrapping_add_signed.ensures in
    sum ∙ sym (wrapped_is c.args.address c.args.addend c.ranges.address.fits fits)
