use Rattle.std.proofs.Common.{◌≡◌, ◌*◌, ◌≤◌, take, length}
use Rattle.cap_table.specs.Planned.{symbol_names, terminated}
use Rattle.cap_table.proofs.naming.names_size.Given as goal

abbrev pub invariant-loop-row : goal.invariant-loop-row
invariant-loop-row l = record {
  front : l.size ≡ length (terminated (symbol_names l.table (take l.row-index l.rows)));
  small : l.size ≤ 256 * l.row-index;
}
