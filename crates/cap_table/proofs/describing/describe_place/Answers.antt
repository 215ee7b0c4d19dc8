use Rattle.std.proofs.Common.{ℤ, pos, ◌+ℤ◌, w64, to_z-of_z, subst}
use Rattle.std.specs.Int.{FitsUnsigned}
use Rattle.std.specs.Prelude.{All}
use Rattle.cap_layout.specs.Pieces.{PieceList}
use Rattle.cap_layout.specs.IsPiece.{IsPiece}
use Rattle.cap_table.specs.Lists.{section_number}
use Rattle.cap_table.proofs.FillPieces.{beyond}
use Rattle.cap_table.proofs.describing.describe_place.Goals as goal

pub returns-in-None : goal.returns-in-None
returns-in-None c =
    let outside = c.in-None.ensures in
    let all = subst (λ (ps : PieceList). All IsPiece ps.all) c.pieces.ensures.pieces c.all-pieces.ensures.sound in
    beyond c.args.layout.now c.args.target.now.file (section_number c.args.target.now.as_is.place) c.args.target.now.as_is.value c.args.addend all (subst (λ (z : ℤ). ¬ (FitsUnsigned w64 (pos c.args.target.now.as_is.value +ℤ z))) (to_z-of_z c.ranges.addend) outside)
