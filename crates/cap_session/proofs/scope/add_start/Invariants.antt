use Rattle.std.proofs.Common.{◌≡◌, ◌++◌, ◌≤◌}
use Rattle.cap_base.specs.Lists.{numbers_between}
use Rattle.cap_session.proofs.scope.add_start.Given as goal

abbrev pub invariant-loop-i : goal.invariant-loop-i
invariant-loop-i l = record {
  all : l.scope.items ++ numbers_between l.i l.start_count ≡ l.fn.scope.items ++ numbers_between 0 l.start_count;
  most : l.i ≤ l.start_count;
}
