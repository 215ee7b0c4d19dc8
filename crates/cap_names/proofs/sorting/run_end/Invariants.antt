use Rattle.std.proofs.Common.{◌≡◌, ℕ, ◌<◌, ◌≤◌, length}
use Rattle.cap_names.specs.Runs.{hash_at}
use Rattle.cap_names.proofs.sorting.run_end.Given as goal

abbrev pub invariant-loop-i : goal.invariant-loop-i
invariant-loop-i l = record {
  below : l.i ≤ length l.keys;
  same : (k : ℕ) → l.at ≤ k → k < l.i → hash_at l.keys k ≡ l.hash;
}
