use Rattle.cap_layout.proofs.PieceSearch.{guessed}
use Rattle.cap_layout.proofs.guessing.is_last.Goals as goal

pub returns-then-begins_at : goal.returns-then-begins_at
returns-then-begins_at c =
    guessed c.args.pieces.now c.args.sections c.args.classes.now c.requires.ordered c.args.file c.args.section c.args.offset c.args.i c.begins_at.result c.begins_at-then-begins_at.result c.begins_at.ensures c.if-begins_at.true c.begins_at-then-begins_at.ensures
