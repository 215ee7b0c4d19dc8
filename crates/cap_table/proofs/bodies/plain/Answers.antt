use Rattle.std.proofs.Common.{sym, subst}
use Rattle.cap_table.specs.Planned.{Planned}
use Rattle.cap_table.specs.Facts.{ArePlanned}
use Rattle.cap_table.proofs.FillFacts.{are_planned}
use Rattle.cap_table.proofs.bodies.plain.Goals as goal

pub plain_planned-requires : goal.plain_planned-requires
plain_planned-requires c =
    let lists = c.requires.lists in
    subst (λ (plan : Planned). ArePlanned c.args.sources.now c.args.layout.now plan) (sym c.plan.ensures) (are_planned c.args.sources.now c.args.layout.now c.args.lists.now.plan lists.plan lists.layout)
