-- A piece that was found by an offset.
use Rattle.std.specs.Prelude.{ℕ, ◌+◌, ◌<◌, ◌≤◌, List, length}
use Rattle.cap_layout.specs.declared.piece.Piece.{Piece}
use Rattle.cap_layout.specs.Pieces.{piece_of}

-- the piece of this number holds the offset, or ends there
pub record Holds (pieces : List Piece) (offset i : ℕ) : Type 0 where
  pub inside : i < length pieces
  pub start : (piece_of pieces i).start ≤ offset
  pub end : offset ≤ (piece_of pieces i).start + (piece_of pieces i).size
