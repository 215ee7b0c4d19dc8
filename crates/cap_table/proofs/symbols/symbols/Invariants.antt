use Rattle.std.proofs.Common.{◌≡◌, ◌++◌, drop, map}
use Rattle.cap_table.specs.Lists.{dyn_symbol, symbols_of}
use Rattle.cap_table.proofs.symbols.symbols.Given as goal

abbrev pub invariant-loop-row : goal.invariant-loop-row
invariant-loop-row l =
    l.listed.items ++ map (dyn_symbol l.sources l.layout) (drop l.row-index l.rows) ≡ symbols_of l.sources l.rows l.layout
