use Rattle.std.proofs.Common.{◌≡◌, ◌++◌, drop, map, length}
use Rattle.cap_table.specs.Bodies.{source_bytes, body_length}
use Rattle.cap_table.proofs.bodies.sections.Given as goal

abbrev pub invariant-loop-piece : goal.invariant-loop-piece
invariant-loop-piece l = record {
  value : l.bodies.items ++ map (source_bytes l.rels) (drop l.piece-index l.pieces) ≡ map (source_bytes l.rels) l.pieces;
  long : map length l.bodies.items ++ map body_length (drop l.piece-index l.pieces) ≡ map body_length l.pieces;
}
