use Rattle.std.proofs.Common.{◌≡◌, ◌++◌}
use Rattle.cap_audit.specs.Findings.{version_findings, objects_below}
use Rattle.cap_audit.proofs.comparing.compare_heads.Given as goal

abbrev pub invariant-loop-k : goal.invariant-loop-k
invariant-loop-k l = l.found.items ≡ version_findings l.image l.wanted ++ objects_below l.image l.wanted l.k
