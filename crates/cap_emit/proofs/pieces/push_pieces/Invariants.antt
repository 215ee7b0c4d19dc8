use Rattle.std.proofs.Common.{◌≡◌}
use Rattle.cap_emit.specs.Written.{chunks_from, class_chunks, with_chunks}
use Rattle.cap_emit.proofs.pieces.push_pieces.Given as goal

abbrev pub invariant-loop-piece : goal.invariant-loop-piece
invariant-loop-piece l =
    with_chunks l.file.items (chunks_from l.layout l.bodies l.class l.piece) ≡ with_chunks l.initial.file.items (class_chunks l.layout l.bodies l.class)
