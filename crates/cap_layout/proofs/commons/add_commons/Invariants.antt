use Rattle.std.proofs.Common.{◌≡◌, ◌++◌, map, take}
use Rattle.cap_layout.specs.Pieces.{common_pieces, entry_piece}
use Rattle.cap_layout.proofs.commons.add_commons.Given as goal

abbrev pub invariant-loop-row : goal.invariant-loop-row
invariant-loop-row l = record {
  all : l.all ≡ l.initial.all ++ common_pieces (take l.row l.table);
  commons : l.commons.items ≡ map (λ r. entry_piece (l.initial.all ++ common_pieces l.table) r.entry r.entry.shape) (take l.row l.table);
}
