use Rattle.std.proofs.Common.{◌≡◌}
use Rattle.cap_audit.specs.Findings.{findings_below}
use Rattle.cap_audit.proofs.differing.push_eight.Given as goal

abbrev pub invariant-loop-n : goal.invariant-loop-n
invariant-loop-n l = l.found.items ≡ findings_below l.k l.own l.other l.n
