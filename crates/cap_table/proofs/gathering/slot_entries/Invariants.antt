use Rattle.std.proofs.Common.{◌≡◌, ◌≤◌, take}
use Rattle.cap_table.specs.Planned.{count}
use Rattle.cap_table.specs.Gathered.{has_entry}
use Rattle.cap_table.proofs.gathering.slot_entries.Given as goal

abbrev pub invariant-loop-slot : goal.invariant-loop-slot
invariant-loop-slot l = record {
  is : l.total ≡ count (has_entry l.entries 193) (take l.slot-index l.slots);
  few : l.total ≤ l.slot-index;
}
