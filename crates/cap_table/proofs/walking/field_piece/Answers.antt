use Rattle.std.proofs.Common.{◌≡◌, Some, sym, ap, ◌∙◌}
use Rattle.cap_layout.specs.Pieces.{field_piece}
use Rattle.cap_table.specs.Kinds.{width_of}
use Rattle.cap_table.proofs.StepPieces.{field_end}
use Rattle.cap_table.proofs.walking.field_piece.Goals as goal

pub returns-in-Some-clause-end : goal.returns-in-Some-clause-end
returns-in-Some-clause-end c =
    let reloc = c.args.reloc.now in
    let pieces = c.args.pieces.now.all in
    let held : field_piece pieces c.args.file reloc.section reloc.offset (width_of reloc.kind) ≡ Some c.in-Some.piece =
    ap (field_piece pieces c.args.file reloc.section reloc.offset) (sym c.field_width-width.ensures.width) ∙ sym c.holding_near.ensures ∙ c.in-Some.is in
    field_end pieces c.args.file reloc.section reloc.offset (width_of reloc.kind) c.in-Some.piece c.requires.sound held
