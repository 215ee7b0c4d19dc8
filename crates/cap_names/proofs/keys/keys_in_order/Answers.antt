use Rattle.std.proofs.Common.{arith}
use Rattle.cap_names.proofs.Filling.{keys_done}
use Rattle.cap_names.proofs.keys.keys_in_order.Goals as goal

pub returns : goal.returns
returns c = keys_done c.args.rule c.args.names.now c.loop-i.i _ _ (omega arith) c.loop-i.invariant
