use Rattle.std.proofs.Common.{◌≡◌, drop}
use Rattle.cap_table.specs.NameTable.{with_names}
use Rattle.cap_table.proofs.names.push_needed.Given as goal

abbrev pub invariant-loop-i : goal.invariant-loop-i
invariant-loop-i l = with_names l.names (drop l.i l.plan.needed) ≡ with_names l.fn.names l.plan.needed
