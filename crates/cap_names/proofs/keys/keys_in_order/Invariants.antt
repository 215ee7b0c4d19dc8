use Rattle.std.proofs.Common.{◌≡◌, ◌++◌, drop}
use Rattle.cap_names.specs.Keys.{keys_from}
use Rattle.cap_names.proofs.keys.keys_in_order.Given as goal

abbrev pub invariant-loop-i : goal.invariant-loop-i
invariant-loop-i l = l.keys.items ++ keys_from l.rule l.i (drop l.i l.names) ≡ keys_from l.rule 0 l.names
