use Rattle.std.proofs.Common.{◌≡◌, map, take}
use Rattle.cap_table.proofs.naming.needed_names.Given as goal

abbrev pub invariant-loop-i : goal.invariant-loop-i
invariant-loop-i l = l.names.items ≡ map (λ n. n.0) (take l.i l.needed)
