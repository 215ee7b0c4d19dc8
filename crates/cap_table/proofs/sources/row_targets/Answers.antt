use Rattle.std.proofs.Common.{◌≡◌, ◌∙◌, ℕ, ap, map, length, arith}
use Rattle.std.specs.List.{range_with_len}
use Rattle.cap_table.specs.Targets.{Named, row_target}
use Rattle.cap_table.proofs.SourceTargets.{rows_held}
use Rattle.cap_table.proofs.sources.row_targets.Goals as goal

pub returns : goal.returns
returns c =
    let named : Named = record { rels = c.args.rels.now; table = c.args.table.now } in
    let all : c.loop-row.row ≡ length c.args.table.now = omega (arith, c) in
    rows_held named c.loop-row.targets.items (c.loop-row.invariant ∙ ap (λ (n : ℕ). map (row_target named) (range_with_len 0 n)) all)
