use Rattle.std.proofs.Common.{slice_index, ◌+◌, ◌≡◌, ◌-◌, ◌<◌, ◌≤◌, length}
use Rattle.cap_reach.specs.Jumps.{IsFirstFree}
use Rattle.cap_reach.specs.Work.{IsWork, Extends}
use Rattle.cap_reach.proofs.work.find_within.Given as goal

abbrev pub invariant-span : goal.invariant-span
invariant-span l = record {
  work : IsWork l.work.next.items l.work.found.items;
  size : length l.work.next.items ≡ length l.granules;
  first : IsFirstFree l.work.next.items l.low l.at;
  extends : Extends (λ k. (k < length l.granules) × ((l.low ≤ k) × (slice_index l.granules k + 16 ≤ l.top))) l.fn.work.found.items l.work.found.items;
}

abbrev pub decreases-span : goal.decreases-span
decreases-span l = length l.granules - l.at
