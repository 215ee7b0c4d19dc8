use Rattle.std.proofs.Common.{◌∙◌, List, ap, subst, arith}
use Rattle.cap_elf.specs.RelObject.{RelObject}
use Rattle.cap_layout.specs.declared.piece.Piece.{Piece}
use Rattle.cap_layout.specs.IsPiece.{IsPiece, IsPieceOf}
use Rattle.cap_layout.specs.Pieces.{PieceList, piece_of, no_piece}
use Rattle.cap_table.proofs.BodyRoom.{read_in_piece}
use Rattle.cap_table.proofs.bodies.field_offset.Goals as goal

pub overflow_sub-result : goal.overflow_sub-result
overflow_sub-result c =
    let pieces = c.args.layout.now.pieces.all in
    let step = c.args.step.now in
    let is = c.get-piece.ensures.piece ∙ ap (λ (ps : PieceList). piece_of ps.all step.piece) c.pieces-pieces.ensures.pieces in
    let sound = subst IsPiece is c.get-piece.ensures.sound in
    let of_input = subst (λ (rels : List RelObject). IsPieceOf rels (piece_of pieces step.piece)) c.requires.rels (c.pieces-pieces.ensures.of_inputs step.piece no_piece c.requires.step.piece) in
    let inside = read_in_piece c.args.sources.now pieces step c.args.reloc.now c.requires.step of_input sound c.requires.reloc c.requires.slot in
    omega (arith, ap (λ (p : Piece). p.start) is, inside.start)

pub returns-clause-room : goal.returns-clause-room
returns-clause-room c =
    let pieces = c.args.layout.now.pieces.all in
    let step = c.args.step.now in
    let is = c.get-piece.ensures.piece ∙ ap (λ (ps : PieceList). piece_of ps.all step.piece) c.pieces-pieces.ensures.pieces in
    let sound = subst IsPiece is c.get-piece.ensures.sound in
    let of_input = subst (λ (rels : List RelObject). IsPieceOf rels (piece_of pieces step.piece)) c.requires.rels (c.pieces-pieces.ensures.of_inputs step.piece no_piece c.requires.step.piece) in
    let inside = read_in_piece c.args.sources.now pieces step c.args.reloc.now c.requires.step of_input sound c.requires.reloc c.requires.slot in
    omega (arith, ap (λ (p : Piece). p.start) is, inside.room)
