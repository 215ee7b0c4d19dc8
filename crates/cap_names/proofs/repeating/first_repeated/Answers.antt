use Rattle.std.proofs.Common.{arith}
use Rattle.cap_names.proofs.Repeats.{seen_all}
use Rattle.cap_names.proofs.repeating.first_repeated.Goals as goal

pub returns : goal.returns
returns c = seen_all _ _ c.requires _ _ c.loop-k.invariant (omega arith)
