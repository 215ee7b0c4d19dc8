use Rattle.std.proofs.Common.{◌≡◌, drop}
use Rattle.cap_table.specs.Planned.{symbol_names}
use Rattle.cap_table.specs.NameTable.{with_names}
use Rattle.cap_table.proofs.names.push_symbols.Given as goal

abbrev pub invariant-loop-row : goal.invariant-loop-row
invariant-loop-row l =
    with_names l.names (symbol_names l.table (drop l.row-index l.rows)) ≡ with_names l.fn.names (symbol_names l.table l.rows)
