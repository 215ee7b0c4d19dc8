use Rattle.std.proofs.Common.{arith}
use Rattle.cap_table.proofs.FillEntered.{slots_more, slots_done}
use Rattle.cap_table.proofs.entering.enter_slots.Goals as goal

pub loop-k-preserved : goal.loop-k-preserved
loop-k-preserved c =
    slots_more c.args.numbers.now c.args.layout.now c.loop-k.lists c.enter.new.self c.slot_want-want.result c.slots-target-items.result.now c.loop-k.k _ _ (omega arith) c.slot_want-want.ensures c.in_ok-enter.ensures c.loop-k.invariant

pub returns : goal.returns
returns c =
    slots_done c.args.numbers.now c.args.layout.now c.loop-k.lists c.slots-target-items.result.now c.loop-k.k _ (omega arith) c.loop-k.invariant
