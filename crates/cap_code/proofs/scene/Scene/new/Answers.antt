use Rattle.std.proofs.Common.{◌≡◌, ap, ◌∙◌, subst, List}
use Rattle.std.specs.Prelude.{All}
use Rattle.cap_elf.specs.RelObject.{RelObject}
use Rattle.cap_layout.specs.IsPiece.{IsPiece, IsPieceOf}
use Rattle.cap_layout.specs.Pieces.{PieceList}
use Rattle.cap_code.proofs.PlanSteps.{plan_steps}
use Rattle.cap_code.proofs.Together.{same_rels}
use Rattle.cap_code.proofs.scene.Scene.new.Goals as goal

pub invariant_of-result : goal.invariant_of-result
invariant_of-result c =
    let named = c.args.sources.now in
    let laid = c.args.layout.now in
    let plan = c.args.lists.now.plan in
    let same : laid.rels ≡ named.rels = same_rels named.rels laid.pieces plan.sizes laid c.requires.layout in
    let sound : All IsPiece laid.pieces.all = subst (λ (p : PieceList). All IsPiece p.all) c.pieces.ensures.pieces c.all.ensures.sound in
    let of_inputs : All (IsPieceOf named.rels) laid.pieces.all = subst (λ (rels : List RelObject). All (IsPieceOf rels) laid.pieces.all) same c.pieces.ensures.of_inputs in (
      record { same = same; resolved = c.rels.ensures.resolved; steps = plan_steps named laid.pieces.all plan sound of_inputs c.requires.plan },
      c.rels.ensures.rels,
      c.all.ensures.all ∙ ap (λ (p : PieceList). p.all) c.pieces.ensures.pieces,
    )
