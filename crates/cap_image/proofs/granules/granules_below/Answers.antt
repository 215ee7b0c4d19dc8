use Rattle.std.proofs.Common.{◌+◌, ltb, rules}
use Rattle.std.proofs.lemmas.List.Sorted.{IsPartitionPoint-from_clause, IsPartitionedBy-ltb}
use Rattle.cap_image.proofs.Rising.{rises, from_here}
use Rattle.cap_image.proofs.granules.granules_below.Goals as goal

pub returns-clause-each : goal.returns-clause-each
returns-clause-each c =
    let parted = IsPartitionedBy-ltb (λ y. y + 0) c.args.granules.now c.args.address (rises c.args.granules.now 0 c.requires) in
    let point = IsPartitionPoint-from_clause (λ y. ltb (y + 0) c.args.address) _ _ c.partition_point.ensures.partitioned parted (λ a r q k. search rules) in
    from_here c.args.granules.now c.args.address _ point
