use Rattle.std.proofs.Common.{subst, sym}
use Rattle.std.proofs.Math.ListN.{set}
use Rattle.std.specs.Prelude.{◌+◌}
use Rattle.cap_reach.specs.Work.{IsWork}
use Rattle.cap_reach.proofs.Finds.{one_more}
use Rattle.cap_reach.proofs.work.find_one.Goals as goal

pub returns-clause-work : goal.returns-clause-work
returns-clause-work c =
    let next = c.args.work.now.next.items in
    subst (IsWork (set next c.args.at (c.args.at + 1))) (sym c.in_ok-push.ensures.items)
    (one_more next c.args.work.now.found.items c.args.at c.requires.work c.requires.within c.requires.free)
