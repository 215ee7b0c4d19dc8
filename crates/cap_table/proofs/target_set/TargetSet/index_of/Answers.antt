use Rattle.std.proofs.Common.{sym, ap, ◌∙◌}
use Rattle.cap_table.specs.Lists.{index_in}
use Rattle.cap_table.proofs.PlanTargets.{place_of}
use Rattle.cap_table.proofs.target_set.TargetSet.index_of.Goals as goal

pub returns-in-Some : goal.returns-in-Some
returns-in-Some c =
    sym c.in-Some.is
    ∙ c.get_index_of.ensures.index
    ∙ place_of c.args.file c.args.symbol c.self.inside.keys.keys c.self.inside.order.items c.self.invariant.0
    ∙ ap (λ ts. index_in ts c.args.file c.args.symbol) c.self.view_is

pub returns-in-None : goal.returns-in-None
returns-in-None c =
    sym c.in-None.is
    ∙ c.get_index_of.ensures.index
    ∙ place_of c.args.file c.args.symbol c.self.inside.keys.keys c.self.inside.order.items c.self.invariant.0
    ∙ ap (λ ts. index_in ts c.args.file c.args.symbol) c.self.view_is
