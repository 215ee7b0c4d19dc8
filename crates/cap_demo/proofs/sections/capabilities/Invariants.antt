use Rattle.std.proofs.Common.{◌≡◌, ◌*◌, ◌++◌, length, drop}
use Rattle.cap_demo.specs.Sections.{capabilities_from}
use Rattle.cap_demo.proofs.sections.capabilities.Given as goal

abbrev pub invariant-loop-i : goal.invariant-loop-i
invariant-loop-i l =
    (l.relas.items ++ capabilities_from (16 * l.i) l.symbols (drop l.i l.targets) ≡ capabilities_from 0 l.symbols l.targets)
    × (length l.relas.items ≡ 24 * l.i)
