use Rattle.cap_demo.proofs.Drawing.{draws_more, draws_done, after_more, after_done}
use Rattle.cap_demo.proofs.numbers.Numbers.draw_all.Goals as goal

pub loop-i-preserved : goal.loop-i-preserved
loop-i-preserved c =
    let i = c.loop-i.i in
    let self = c.loop-i.self in (
      draws_more c.args.count i self c.draw.new.self c.draw.result c.loop-i.values.items c.push.new.self.items _ c.loop-i-test.true c.draw.ensures.value c.draw.ensures.state c.in_ok-push.ensures.items c.loop-i.invariant.0,
      after_more c.args.count i self c.draw.new.self _ c.loop-i-test.true c.draw.ensures.state c.loop-i.invariant.1,
    )

pub returns-clause-values : goal.returns-clause-values
returns-clause-values c =
    draws_done c.args.count c.loop-i.i c.loop-i.self c.loop-i.values.items _ c.loop-i-test.false c.loop-i.invariant.0

pub returns-clause-state : goal.returns-clause-state
returns-clause-state c =
    after_done c.args.count c.loop-i.i c.loop-i.self _ c.loop-i-test.false c.loop-i.invariant.1
