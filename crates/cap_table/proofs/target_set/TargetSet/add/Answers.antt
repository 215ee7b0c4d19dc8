use Rattle.std.proofs.Common.{List, [], ◌∷◌, ◌++◌, sym, ap, ◌∙◌}
use Rattle.cap_syms.specs.Distinct.{with_new}
use Rattle.cap_table.specs.declared.target.Target.{Target}
use Rattle.cap_table.specs.Targets.{same_target}
use Rattle.cap_table.proofs.PlanTargets.{is_there, with_same, with_other}
use Rattle.cap_table.proofs.target_set.TargetSet.add.Goals as goal

pub returns-then-contains : goal.returns-then-contains
returns-then-contains c =
    let ts = c.self.inside.order.items in
    let there = sym (is_there c.args.target.now c.self.inside.keys.keys ts c.self.invariant.0) ∙ sym c.contains.ensures ∙ c.if-contains.true in
    sym c.self.view_is ∙ with_same ts c.args.target.now there ∙ ap (λ l. with_new same_target l c.args.target.now) c.self.view_is

pub returns : goal.returns
returns c =
    let ts = c.self.inside.order.items in
    let there = sym (is_there c.args.target.now c.self.inside.keys.keys ts c.self.invariant.0) ∙ sym c.contains.ensures ∙ c.if-contains.false in
    c.push_reserved.ensures.items ∙ ap (λ (l : List Target). l ++ c.args.target.now ∷ []) c.reserve.ensures.items ∙ with_other ts c.args.target.now there ∙ ap (λ l. with_new same_target l c.args.target.now) c.self.view_is
