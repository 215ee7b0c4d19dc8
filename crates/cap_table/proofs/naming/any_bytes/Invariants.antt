use Rattle.std.proofs.Common.{◌≡◌, drop}
use Rattle.cap_layout.specs.Places.{of_class}
use Rattle.cap_layout.specs.Parts.{has_bytes}
use Rattle.cap_table.proofs.naming.any_bytes.Given as goal

abbrev pub invariant-loop-piece : goal.invariant-loop-piece
invariant-loop-piece l = has_bytes (of_class l.class (drop l.piece-index l.pieces)) ≡ has_bytes (of_class l.class l.pieces)
