use Rattle.std.proofs.Common.{ℕ, ◌-◌, ◌<◌, ◌≤◌, length, slice_index}
use Rattle.cap_reach.specs.Jumps.{AreJumps, TakesSame}
use Rattle.cap_reach.proofs.work.first_free.Given as goal

abbrev pub invariant-hops : goal.invariant-hops
invariant-hops l = record {
  jumps : AreJumps l.next.items;
  same : TakesSame l.fn.next.items l.next.items;
  low : l.from ≤ l.at;
  within : l.at ≤ length l.next.items;
  passed : (k : ℕ) → l.from ≤ k → k < l.at → 0 < slice_index l.next.items k;
}

abbrev pub decreases-hops : goal.decreases-hops
decreases-hops l = length l.next.items - l.at
