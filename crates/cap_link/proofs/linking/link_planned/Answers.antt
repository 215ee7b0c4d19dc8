use Rattle.std.proofs.Common.{sym, subst, List, ◌∙◌}
use Rattle.cap_elf.specs.RelObject.{RelObject}
use Rattle.cap_layout.specs.declared.parts.Sizes.{Sizes}
use Rattle.cap_layout.specs.Pieces.{PieceList}
use Rattle.cap_layout.specs.Laid.{ArePiecesOf, IsLayoutOf}
use Rattle.cap_table.specs.Planned.{IsPlanOf}
use Rattle.cap_link.proofs.LinkedFacts.{layout_rels, layout_pieces, layout_of_own}
use Rattle.cap_link.proofs.linking.link_planned.Goals as goal

pub link_laid-requires-clause-rels : goal.link_laid-requires-clause-rels
link_laid-requires-clause-rels c = layout_rels _ _ _ _ c.in_ok-layout.ensures.value ∙ c.rels.ensures.rels

pub link_laid-requires-clause-pieces : goal.link_laid-requires-clause-pieces
link_laid-requires-clause-pieces c =
    subst (λ (p : PieceList). ArePiecesOf c.args.sources.now.rels c.args.sources.now.table p) (sym (layout_pieces _ _ _ _ c.in_ok-layout.ensures.value)) c.requires.pieces

pub link_laid-requires-clause-planned : goal.link_laid-requires-clause-planned
link_laid-requires-clause-planned c =
    subst (λ (p : PieceList). IsPlanOf c.args.sources.now p.all c.args.plan.now) (sym (layout_pieces _ _ _ _ c.in_ok-layout.ensures.value)) c.requires.planned

pub link_laid-requires-clause-laid : goal.link_laid-requires-clause-laid
link_laid-requires-clause-laid c =
    subst (λ (s : Sizes). IsLayoutOf c.args.sources.now.rels c.in_ok-layout.layout.pieces s c.in_ok-layout.layout) c.sizes.ensures
    (subst (λ (r : List RelObject). IsLayoutOf r c.in_ok-layout.layout.pieces c.sizes.result c.in_ok-layout.layout) c.rels.ensures.rels (layout_of_own _ _ _ _ c.in_ok-layout.ensures.value))
