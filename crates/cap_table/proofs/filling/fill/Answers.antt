use Rattle.cap_table.proofs.FillFacts.{are_planned, all_lists}
use Rattle.cap_table.proofs.filling.fill.Goals as goal

pub fill_planned-requires : goal.fill_planned-requires
fill_planned-requires c = are_planned c.args.sources.now c.args.layout.now c.args.plan.now c.requires.planned c.requires.laid

pub returns-clause-lists : goal.returns-clause-lists
returns-clause-lists c = all_lists c.args.sources.now c.args.layout.now c.args.plan.now c.fill_planned.result c.requires.planned c.requires.laid c.fill_planned.ensures
