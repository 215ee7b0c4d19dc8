use Rattle.std.proofs.Common.{◌≡◌, ◌+◌, ◌≤◌, length, drop}
use Rattle.std.specs.Prelude.{fold}
use Rattle.cap_demo.specs.Symbols.{with_target, symbols_of}
use Rattle.cap_demo.proofs.symbols.symbols.Given as goal

abbrev pub invariant-loop-target : goal.invariant-loop-target
invariant-loop-target l =
    (fold with_target l.symbols.items (drop l.target-index l.targets) ≡ symbols_of l.number l.sizes l.targets)
    × (length l.symbols.items ≤ 2 + length l.sizes + l.target-index)
