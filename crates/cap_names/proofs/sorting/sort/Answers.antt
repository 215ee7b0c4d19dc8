use Rattle.std.proofs.Common.{arith}
use Rattle.std.proofs.lemmas.List.Sorted.{IsPermutation-trans, IsNonDecreasingBy-from_sort}
use Rattle.cap_names.proofs.Settling.{none_settled, all_settled}
use Rattle.cap_names.proofs.sorting.sort.Goals as goal

pub loop-at-init : goal.loop-at-init
loop-at-init c = record {
  moved = c.sort_unstable.ensures.permutation;
  settled = none_settled _ _ (IsNonDecreasingBy-from_sort (λ x. x) _ c.sort_unstable.ensures.sorted);
}

pub loop-at-preserved : goal.loop-at-preserved
loop-at-preserved c = record {
  moved = IsPermutation-trans _ _ _ c.loop-at.invariant.moved c.settle-at.ensures.moved;
  settled = c.settle-at.ensures.settled;
}

pub returns-clause-sorted : goal.returns-clause-sorted
returns-clause-sorted c = all_settled c.args.names.now _ c.loop-at.at c.loop-at.invariant.settled (omega arith)
