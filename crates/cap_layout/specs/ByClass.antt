-- Where the pieces of each class stand.
use Rattle.std.specs.Prelude.{◌≡◌, ℕ, ◌+◌, ◌<◌, ◌≤◌, true, ◌==◌, if◌then◌else◌, List, length, slice_index_or}
use Rattle.cap_elf.specs.declared.records.Class.{Class}
use Rattle.cap_elf.specs.Classes.{same_class}
use Rattle.cap_layout.specs.declared.piece.Piece.{Piece}
use Rattle.cap_layout.specs.declared.by_class.Span.{Span}
use Rattle.cap_layout.specs.Pieces.{piece_of}
use Rattle.cap_layout.specs.PieceOrder.{rank}

-- no pieces of the class between these numbers
abbrev pub no_span : Span
no_span = record { first = 0; end = 0 }

-- the span with one more piece, behind all in it
abbrev pub extended : Span → ℕ → Span
extended s i = if s.end == 0 then record { first = i; end = i + 1 } else record { first = s.first; end = i + 1 }

-- by the rank of each class, between which numbers those of the first pieces stand that are of it
pub record AreSpans (spans : List Span) (pieces : List Piece) (n : ℕ) : Type 0 where
  pub count : length spans ≡ 8
  pub order : (r : ℕ) → (slice_index_or spans r no_span).first ≤ (slice_index_or spans r no_span).end
  pub ends : (r : ℕ) → (slice_index_or spans r no_span).end ≤ n
  pub from : (k : ℕ) → k < n → (slice_index_or spans (rank (piece_of pieces k).class) no_span).first ≤ k
  pub before : (k : ℕ) → k < n → k < (slice_index_or spans (rank (piece_of pieces k).class) no_span).end

-- all pieces of a class have numbers from the first on, and below the end
pub record IsSpanOf (pieces : List Piece) (class : Class) (first end : ℕ) : Type 0 where
  pub order : first ≤ end
  pub within : end ≤ length pieces
  pub from : (k : ℕ) → k < length pieces → same_class (piece_of pieces k).class class ≡ true → first ≤ k
  pub before : (k : ℕ) → k < length pieces → same_class (piece_of pieces k).class class ≡ true → k < end
