use Rattle.std.proofs.Common.{◌≡◌, ◌+◌, ◌-◌, cond, Some, ap, ◌∙◌, sym, arith}
use Rattle.std.specs.BTreeMap.{is_at}
use Rattle.std.specs.Map.{lookup}
use Rattle.cap_layout.specs.CommonMap.{pair_cmp, common_in}
use Rattle.cap_layout.specs.Pieces.{is_common_of, no_piece, piece_of}
use Rattle.cap_layout.proofs.PointCommons.{common_from, common_none, common_step, common_all}
use Rattle.cap_layout.proofs.common_map.CommonMap.of.Goals as goal

pub loop-number-init : goal.loop-number-init
loop-number-init c = λ file symbol.
    ap (λ es. lookup (is_at (pair_cmp (file, symbol))) es) c.new.ensures.empty
    ∙ sym (common_none c.args.pieces.now.all c.len-number.result file symbol (omega arith))

pub loop-number-preserved : goal.loop-number-preserved
loop-number-preserved c = λ file symbol.
    let all = c.args.pieces.now.all in
    let number = c.loop-number.number - 1 in
    let next : number + 1 ≡ c.loop-number.number = omega arith in
    let old = common_in c.loop-number.commons file symbol in
    c.in_ok-note.ensures file symbol
    ∙ ap (λ p. cond (is_common_of file symbol p) (Some number) old) c.get.ensures.piece
    ∙ ap (cond (is_common_of file symbol (piece_of all number)) (Some number)) (c.loop-number.invariant file symbol ∙ ap (λ k. common_from all k file symbol) (sym next))
    ∙ sym (common_step all number file symbol no_piece (omega arith))

pub returns : goal.returns
returns c = λ file symbol.
    let none : c.loop-number.number ≡ 0 = omega arith in
    c.loop-number.invariant file symbol
    ∙ ap (λ k. common_from c.args.pieces.now.all k file symbol) none
    ∙ common_all c.args.pieces.now.all file symbol
