use Rattle.std.proofs.Common.{◌≡◌, ◌+◌, ◌*◌, ◌≤◌, length, drop}
use Rattle.std.specs.Prelude.{fold}
use Rattle.cap_demo.specs.Sections.{with_symbol, named_symbols}
use Rattle.cap_demo.proofs.sections.named_symbols.Given as goal

abbrev pub invariant-loop-symbol : goal.invariant-loop-symbol
invariant-loop-symbol l =
    (fold with_symbol l.named (drop l.symbol-index l.symbols) ≡ named_symbols l.symbols)
    × (length l.named.table ≡ 24 + 24 * l.symbol-index)
    × (length l.named.names ≤ 40 + 83 * l.symbol-index)
