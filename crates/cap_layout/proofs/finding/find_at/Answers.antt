use Rattle.std.proofs.Common.{◌≡◌, ap, get_or, sym, arith}
use Rattle.std.proofs.lemmas.List.{get_or_default}
use Rattle.cap_layout.specs.Pieces.{piece_of, no_piece}
use Rattle.cap_layout.specs.PieceOrder.{IsLastFrom, NoneFrom, end_of}
use Rattle.cap_layout.proofs.PieceSearch.{blank}
use Rattle.cap_layout.proofs.PieceAnswers.{at_none, at_found, at_past, for_some, for_none}
use Rattle.cap_layout.proofs.finding.find_at.Goals as goal

pub returns-in_default : goal.returns-in_default
returns-in_default c =
    let all = c.args.pieces.now in
    sym (at_none all c.args.file c.args.section c.args.offset (for_none c.args.last (NoneFrom all c.args.file c.args.section c.args.offset) (IsLastFrom all c.args.file c.args.section c.args.offset) c.in_default.is c.requires.last))

pub returns-then-offset-pieces : goal.returns-then-offset-pieces
returns-then-offset-pieces c =
    let all = c.args.pieces.now in
    let i = c.in-Some.i in
    let last : IsLastFrom all c.args.file c.args.section c.args.offset i = for_some c.args.last i (NoneFrom all c.args.file c.args.section c.args.offset) (IsLastFrom all c.args.file c.args.section c.args.offset) c.in-Some.is c.requires.last in
    let inside = last.inside in
    let is : end_of (get_or all i blank) ≡ end_of (piece_of all i) = ap end_of (get_or_default all i blank no_piece inside) in
    sym (at_found all c.args.file c.args.section c.args.offset i last (omega (arith, is, c.if-offset-pieces.true)))

pub returns-else-offset-pieces : goal.returns-else-offset-pieces
returns-else-offset-pieces c =
    let all = c.args.pieces.now in
    let i = c.in-Some.i in
    let last : IsLastFrom all c.args.file c.args.section c.args.offset i = for_some c.args.last i (NoneFrom all c.args.file c.args.section c.args.offset) (IsLastFrom all c.args.file c.args.section c.args.offset) c.in-Some.is c.requires.last in
    let inside = last.inside in
    let is : end_of (get_or all i blank) ≡ end_of (piece_of all i) = ap end_of (get_or_default all i blank no_piece inside) in
    sym (at_past all c.args.file c.args.section c.args.offset i last (omega (arith, is, c.if-offset-pieces.false)))
