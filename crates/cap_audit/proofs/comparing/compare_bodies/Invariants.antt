use Rattle.std.proofs.Common.{◌≡◌}
use Rattle.cap_audit.specs.Findings.{granules_below, orders_below}
use Rattle.cap_audit.proofs.comparing.compare_bodies.Given as goal

abbrev pub invariant-loop-k : goal.invariant-loop-k
invariant-loop-k l = record {
  found : l.found.items ≡ granules_below l.image l.wanted l.k;
  orders : l.orders.items ≡ orders_below l.image l.wanted l.k;
}
