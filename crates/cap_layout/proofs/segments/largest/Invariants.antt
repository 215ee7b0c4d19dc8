use Rattle.std.proofs.Common.{◌≡◌, take}
use Rattle.cap_layout.specs.Segments.{largest_of}
use Rattle.cap_layout.proofs.segments.largest.Given as goal

abbrev pub invariant-loop-piece : goal.invariant-loop-piece
invariant-loop-piece l = l.largest ≡ largest_of (take l.piece-index l.pieces)
