use Rattle.std.proofs.Common.{◌≡◌, ◌*◌}
use Rattle.cap_audit.specs.Findings.{findings_below}
use Rattle.cap_audit.proofs.differing.list_differences.Given as goal

abbrev pub invariant-loop-j : goal.invariant-loop-j
invariant-loop-j l = l.found.items ≡ findings_below l.k l.own l.other (8 * l.j)
