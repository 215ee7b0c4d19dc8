use Rattle.std.proofs.Common.{rules, ltb, ltb-true}
use Rattle.std.proofs.lemmas.Bool.{ltb-false}
use Rattle.std.proofs.lemmas.List.Sorted.{IsPartitionPoint-from_clause, IsPartitionedBy-ltb}
use Rattle.cap_intervals.proofs.search.count_before.Goals as goal

pub returns : goal.returns
returns c =
    let parted = IsPartitionedBy-ltb (λ y. y.start) _ c.args.end c.requires in
    let point = IsPartitionPoint-from_clause (λ y. ltb y.start c.args.end) _ _ c.partition_point.ensures.partitioned parted (λ a r q k. search rules) in
    record {
      bound = c.partition_point.ensures.bound;
      below = λ k d le lt. ltb-true _ _ (point.0 k d le lt);
      above = λ k d le lt. ltb-false _ _ (point.1 k d le lt);
    }
