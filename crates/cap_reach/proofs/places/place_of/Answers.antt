use Rattle.std.proofs.Common.{IsTrue}
use Rattle.cap_reach.proofs.Sought.{not_listed}
use Rattle.cap_reach.proofs.places.place_of.Goals as goal

pub returns-else-is_at : goal.returns-else-is_at
returns-else-is_at c =
    not_listed c.args.granules.now c.args.slot c.granules_below-i.result c.requires c.granules_below-i.ensures.each
    (λ lt same. let yes : IsTrue c.is_at.result = c.is_at.ensures.1 (lt, same) in let no = c.if-is_at.false in cc)
