use Rattle.std.proofs.Common.{arith}
use Rattle.cap_table.proofs.FillEntered.{fields_more, fields_done}
use Rattle.cap_table.proofs.entering.enter_fields.Goals as goal

pub loop-step-preserved : goal.loop-step-preserved
loop-step-preserved c =
    fields_more c.args.numbers.now c.args.sources.now c.args.layout.now c.loop-step.lists c.enter_field.new.lists c.steps-step-items.result.now c.loop-step.step-index _ _ (omega arith) c.in_ok-enter_field.ensures c.loop-step.invariant

pub returns : goal.returns
returns c =
    fields_done c.args.numbers.now c.args.sources.now c.args.layout.now c.loop-step.lists c.steps-step-items.result.now c.loop-step.step-index _ (omega arith) c.loop-step.invariant
