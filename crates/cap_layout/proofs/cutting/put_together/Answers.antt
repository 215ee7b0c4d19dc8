use Rattle.std.proofs.Common.{◌≡◌, ◌++◌, All, length, sym, ap, subst, ◌∙◌, false}
use Rattle.cap_layout.specs.IsPiece.{IsPiece, IsPieceOf}
use Rattle.cap_layout.specs.Pieces.{PieceList, common_pieces, piece_list}
use Rattle.cap_layout.specs.Places.{InClassOrder}
use Rattle.cap_layout.proofs.PieceClasses.{in_class_order}
use Rattle.cap_layout.proofs.PieceOrders.{none_common, are_ordered, all_pieces_are, list_is, of_sections}
use Rattle.cap_layout.proofs.cutting.put_together.Goals as goal

pub add_commons-requires-clause-sections : goal.add_commons-requires-clause-sections
add_commons-requires-clause-sections c = subst (All (λ p. p.common ≡ false)) (sym c.in_ok-all.ensures) (none_common c.args.rels.now c.requires.read)

pub new-requires : goal.new-requires
new-requires c =
    are_ordered c.args.rels.now c.args.table.now c.add_commons.new.all c.len-sections.result c.in_ok-classes.classes.items c.requires.read c.requires.resolved
    (c.in_ok-commons.ensures.all ∙ ap (λ ps. ps ++ common_pieces c.args.table.now) c.in_ok-all.ensures)
    (c.len-sections.ensures.len ∙ ap length c.in_ok-all.ensures)
    c.in_ok-classes.ensures

pub returns : goal.returns
returns c =
    let rels = c.args.rels.now in
    let table = c.args.table.now in
    let is : c.new.result ≡ piece_list rels table =
    list_is rels table c.new.result c.in_ok-all.all c.add_commons.new.all c.in_ok-commons.commons.items c.new.ensures c.in_ok-all.ensures c.in_ok-commons.ensures.all c.in_ok-commons.ensures.commons in
    let all : c.new.result.all ≡ of_sections rels ++ common_pieces table = ap (λ (p : PieceList). p.all) is in
    let are : All IsPiece c.new.result.all × All (IsPieceOf rels) c.new.result.all = all_pieces_are rels table c.new.result.all c.requires.read c.requires.resolved all in
    record { value = is; sound = are.0; order = subst InClassOrder (sym all) (in_class_order rels table c.requires.read); of_inputs = are.1 }
