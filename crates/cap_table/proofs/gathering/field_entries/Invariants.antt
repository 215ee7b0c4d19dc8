use Rattle.std.proofs.Common.{◌≡◌, ◌≤◌, take}
use Rattle.cap_table.specs.Planned.{count}
use Rattle.cap_table.specs.Gathered.{field_has_entry}
use Rattle.cap_table.proofs.gathering.field_entries.Given as goal

abbrev pub invariant-loop-step : goal.invariant-loop-step
invariant-loop-step l = record {
  is : l.total ≡ count (field_has_entry l.entries l.sources) (take l.step-index l.steps);
  few : l.total ≤ l.step-index;
}
