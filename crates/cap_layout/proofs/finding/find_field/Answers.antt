use Rattle.std.proofs.Common.{◌≡◌, ◌+◌, ◌<◌, ap, get_or, sym, arith}
use Rattle.std.proofs.lemmas.List.{get_or_default}
use Rattle.cap_layout.specs.Pieces.{piece_of, no_piece}
use Rattle.cap_layout.specs.PieceOrder.{IsLastFrom, NoneFrom, end_of}
use Rattle.cap_layout.proofs.PieceSearch.{blank}
use Rattle.cap_layout.proofs.PieceAnswers.{field_none, field_found, field_past, for_some, for_none}
use Rattle.cap_layout.proofs.finding.find_field.Goals as goal
use Rattle.cap_layout.proofs.finding.find_field.Goals.{else-offset-end-via-then-offset-end+else-size-end, else-offset-end-via-else-offset-end}

pub returns-in_default : goal.returns-in_default
returns-in_default c =
    let all = c.args.pieces.now in
    sym (field_none all c.args.file c.args.section c.args.offset c.args.size (for_none c.args.last (NoneFrom all c.args.file c.args.section c.args.offset) (IsLastFrom all c.args.file c.args.section c.args.offset) c.in_default.is c.requires.last))

pub returns-then-size-end : goal.returns-then-size-end
returns-then-size-end c =
    let all = c.args.pieces.now in
    let i = c.in-Some.i in
    let last : IsLastFrom all c.args.file c.args.section c.args.offset i = for_some c.args.last i (NoneFrom all c.args.file c.args.section c.args.offset) (IsLastFrom all c.args.file c.args.section c.args.offset) c.in-Some.is c.requires.last in
    let inside = last.inside in
    let is : end_of (get_or all i blank) ≡ end_of (piece_of all i) = ap end_of (get_or_default all i blank no_piece inside) in
    sym (field_found all c.args.file c.args.section c.args.offset i last c.args.size c.requires.some (omega (arith, is, c.if-offset-end.true, c.if-size-end.true)))

pub returns-else-offset-end : goal.returns-else-offset-end
returns-else-offset-end c =
    let all = c.args.pieces.now in
    let i = c.in-Some.i in
    let last : IsLastFrom all c.args.file c.args.section c.args.offset i = for_some c.args.last i (NoneFrom all c.args.file c.args.section c.args.offset) (IsLastFrom all c.args.file c.args.section c.args.offset) c.in-Some.is c.requires.last in
    let inside = last.inside in
    let is : end_of (get_or all i blank) ≡ end_of (piece_of all i) = ap end_of (get_or_default all i blank no_piece inside) in
    let past : end_of (piece_of all i) < c.args.offset + c.args.size = elim c.else-offset-end.branch [
      | else-offset-end-via-then-offset-end+else-size-end w ↦ omega (arith, is, w.if-offset-end.true, w.if-size-end.false)
      | else-offset-end-via-else-offset-end w ↦ omega (arith, is, w.if-offset-end.false)
    ] in
    sym (field_past all c.args.file c.args.section c.args.offset i last c.args.size c.requires.some past)
