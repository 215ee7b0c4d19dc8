use Rattle.std.proofs.Common.{subst, FitsSigned, w64}
use Rattle.std.specs.Prelude.{All}
use Rattle.std.proofs.lemmas.Int.{to_z-of_z}
use Rattle.cap_layout.specs.IsPiece.{IsPiece}
use Rattle.cap_layout.specs.Points.{Laid}
use Rattle.cap_layout.proofs.PointNumbers.{beside_none}
use Rattle.cap_layout.proofs.layout.Layout.place_beside.Goals as goal

pub returns-in-None : goal.returns-in-None
returns-in-None c =
    let sound = subst (λ (v : Laid). All IsPiece v.pieces.all) c.self.view_is c.self.invariant.sound in
    let fits : FitsSigned w64 c.args.addend = c.ranges.addend in
    let misfit = simp to_z-of_z at c.in-None.ensures in
    beside_none c.args.self.now sound c.args.file c.args.section c.args.value c.args.addend misfit
