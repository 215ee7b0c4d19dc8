use Rattle.std.proofs.Common.{◌≡◌, ◌<◌, All, length}
use Rattle.cap_table.proofs.PlanNames.{exported_front}
use Rattle.cap_table.proofs.naming.exported.Given as goal

abbrev pub invariant-loop-row : goal.invariant-loop-row
invariant-loop-row l = record {
  front : l.rows.items ≡ exported_front l.table l.row;
  below : All (λ row. row < length l.table) l.rows.items;
}
