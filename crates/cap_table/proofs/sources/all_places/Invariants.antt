use Rattle.cap_table.specs.Standing.{Keeps}
use Rattle.cap_table.proofs.SourceTargets.{FilesStand}
use Rattle.cap_table.proofs.sources.all_places.Given as goal

abbrev pub invariant-loop-file : goal.invariant-loop-file
invariant-loop-file l =
    FilesStand (record { rels = l.rels; table = l.table }) l.targets.items l.places.items l.file
    × Keeps l.fn.targets.items l.targets.items
