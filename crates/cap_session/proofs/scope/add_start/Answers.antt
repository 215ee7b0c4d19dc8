use Rattle.std.proofs.Common.{◌≡◌, append_assoc, append-nil, arith}
use Rattle.cap_session.proofs.Numbers.{numbers_first, numbers_none}
use Rattle.cap_session.proofs.scope.add_start.Goals as goal

pub loop-i-preserved : goal.loop-i-preserved
loop-i-preserved c =
    let first = numbers_first c.loop-i.i c.args.start_count c.loop-i-test.true in
    record {
      all = rw (c.in_ok-push.ensures.items, append_assoc) (rw (← first) c.loop-i.invariant.all);
      most = omega arith;
    }
