use Rattle.std.proofs.Common.{◌+◌}
use Rattle.cap_names.specs.Keys.{Seen}
use Rattle.cap_names.proofs.repeating.first_repeated.Given as goal

abbrev pub invariant-loop-k : goal.invariant-loop-k
invariant-loop-k l = Seen l.names l.keys (l.k + 1) l.least
