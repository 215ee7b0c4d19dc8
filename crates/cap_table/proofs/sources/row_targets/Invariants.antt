use Rattle.std.proofs.Common.{◌≡◌, map}
use Rattle.std.specs.List.{range_with_len}
use Rattle.cap_table.specs.Targets.{row_target}
use Rattle.cap_table.proofs.sources.row_targets.Given as goal

abbrev pub invariant-loop-row : goal.invariant-loop-row
invariant-loop-row l = l.targets.items ≡ map (row_target (record { rels = l.rels; table = l.table })) (range_with_len 0 l.row)
