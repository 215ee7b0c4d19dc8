use Rattle.std.proofs.Common.{◌≡◌, IfOk, arith, subst}
use Rattle.std.proofs.lemmas.List.Sorted.{IsNonDecreasingBy-from_all_adjacent}
use Rattle.std.proofs.lemmas.Map.Keys.{ge_from_not_lt}
use Rattle.cap_layout.proofs.MarkSets.{ascending-permuted}
use Rattle.cap_layout.proofs.marks.ascending_marks.Goals as goal

pub distinct-requires : goal.distinct-requires
distinct-requires c =
    IsNonDecreasingBy-from_all_adjacent (λ x. x) c.sort_unstable.new.self (λ k d lt. ge_from_not_lt _ _ (c.sort_unstable.ensures.sorted k d (omega arith) lt))

pub returns : goal.returns
returns c =
    subst (λ xs. IfOk c.distinct.result (λ marks. marks.items ≡ xs)) (ascending-permuted c.args.ends.now c.sort_unstable.new.self c.sort_unstable.ensures.permutation) c.distinct.ensures
