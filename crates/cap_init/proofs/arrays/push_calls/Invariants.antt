use Rattle.std.proofs.Common.{◌≡◌, ◌++◌}
use Rattle.cap_init.specs.Listing.{calls_below}
use Rattle.cap_init.proofs.arrays.push_calls.Given as goal

abbrev pub invariant-loop-k : goal.invariant-loop-k
invariant-loop-k l = l.calls.items ≡ l.fn.calls.items ++ calls_below l.number l.object.records l.memory l.k
