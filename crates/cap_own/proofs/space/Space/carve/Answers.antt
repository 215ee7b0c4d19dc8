use Rattle.cap_own.proofs.Multiples.{IsNextMultiple-from}
use Rattle.cap_own.proofs.space.Space.carve.Goals as goal

pub returns-clause-aligned : goal.returns-clause-aligned
returns-clause-aligned c =
    let up = c.next_multiple_of-start.ensures in
    rw (← c.self.view_is) (IsNextMultiple-from c.args.align c.self.inside.next _ up.multiple up.lower_bound up.upper_bound)
