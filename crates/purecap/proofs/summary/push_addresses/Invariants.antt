use Rattle.std.proofs.Common.{◌≡◌, ◌++◌}
use Rattle.purecap.specs.Summing.{first_addresses}
use Rattle.purecap.proofs.summary.push_addresses.Given as goal

abbrev pub invariant-loop-k : goal.invariant-loop-k
invariant-loop-k l = l.addresses.items ≡ l.initial.addresses.items ++ first_addresses l.memory l.k
