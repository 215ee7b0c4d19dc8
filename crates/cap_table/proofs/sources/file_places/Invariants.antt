use Rattle.cap_table.specs.Standing.{Keeps}
use Rattle.cap_table.proofs.SourceTargets.{FirstStand}
use Rattle.cap_table.proofs.sources.file_places.Given as goal

abbrev pub invariant-loop-symbol : goal.invariant-loop-symbol
invariant-loop-symbol l =
    FirstStand (record { rels = l.rels; table = l.table }) l.file l.targets.items l.at.items l.symbol
    × Keeps l.fn.targets.items l.targets.items
