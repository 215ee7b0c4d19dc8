use Rattle.std.proofs.Common.{arith}
use Rattle.cap_reach.proofs.Taken.{read, takes_next, passes_next, all_taken}
use Rattle.cap_reach.proofs.work.ascending.Goals as goal
use Rattle.cap_reach.proofs.work.ascending.Goals.{then-index-ne0+in_ok-push, else-index-ne0}

pub loop-i-preserved : goal.loop-i-preserved
loop-i-preserved c =
    elim c.if-index-ne0.branch [
      | then-index-ne0+in_ok-push w ↦
          rw w.found-is (takes_next c.args.next.now.items c.loop-i.found.items _ c.loop-i.i c.loop-i.invariant (let e = read c.args.next.now.items c.loop-i.i _ (omega arith) c.index.ensures in omega arith) w.in_ok-push.ensures.items)
      | else-index-ne0 w ↦ rw w.found-is (passes_next c.args.next.now.items c.loop-i.found.items c.loop-i.i c.loop-i.invariant (let e = read c.args.next.now.items c.loop-i.i _ (omega arith) c.index.ensures in omega arith))
    ]

pub returns-clause-each : goal.returns-clause-each
returns-clause-each c = all_taken c.args.next.now.items c.loop-i.found.items c.loop-i.i c.loop-i.invariant (omega arith)
