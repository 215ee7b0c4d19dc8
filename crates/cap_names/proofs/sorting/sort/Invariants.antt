use Rattle.std.proofs.Common.{◌-◌, length}
use Rattle.std.specs.List.Sorted.{IsPermutation}
use Rattle.cap_names.specs.Runs.{IsSettled}
use Rattle.cap_names.proofs.sorting.sort.Given as goal

abbrev pub invariant-loop-at : goal.invariant-loop-at
invariant-loop-at l = record {
  moved : IsPermutation l.fn.keys l.keys;
  settled : IsSettled l.names l.keys l.at;
}

abbrev pub decreases-loop-at : goal.decreases-loop-at
decreases-loop-at l = length l.keys - l.at
