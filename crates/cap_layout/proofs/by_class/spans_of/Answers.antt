use Rattle.std.proofs.Common.{ap, arith}
use Rattle.std.proofs.lemmas.List.{get_or_default}
use Rattle.cap_layout.specs.declared.piece.Piece.{Piece}
use Rattle.cap_layout.specs.Pieces.{no_piece}
use Rattle.cap_layout.specs.PieceOrder.{rank}
use Rattle.cap_layout.proofs.ClassSpans.{rank_below, spans_more}
use Rattle.cap_layout.proofs.by_class.spans_of.Goals as goal

pub loop-i-preserved : goal.loop-i-preserved
loop-i-preserved c =
    spans_more c.loop-i.spans.items c.add.new.spans.items c.args.pieces.now c.loop-i.i _ c.loop-i.invariant (rank_below _)
    (ap (λ (p : Piece). rank p.class) (get_or_default c.args.pieces.now c.loop-i.i _ no_piece (omega (arith, c.loop-i-test.true))))
    c.add.ensures
