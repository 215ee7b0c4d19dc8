use Rattle.std.proofs.Common.{◌≡◌, ◌+◌, ◌*◌, ◌≤◌, ◌++◌, length, drop}
use Rattle.cap_demo.specs.Symbols.{data_symbols, own_symbols}
use Rattle.cap_demo.proofs.symbols.own_symbols.Given as goal

abbrev pub invariant-loop-index : goal.invariant-loop-index
invariant-loop-index l =
    (l.symbols.items ++ data_symbols l.number l.index l.at (drop l.index l.sizes) ≡ own_symbols l.number l.sizes)
    × (l.at ≤ 1040 + 9000 * l.index)
    × (length l.symbols.items ≡ 2 + l.index)
