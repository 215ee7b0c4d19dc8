-- The pieces that hold fields.
use Rattle.std.proofs.Common.{◌≡◌, ℕ, ◌+◌, ◌^◌, ◌≤◌, ◌&&◌, nat_le, List, Some, All, get_or, arith}
use Rattle.std.proofs.lemmas.Bool.{leb-true, and_parts}
use Rattle.std.proofs.lemmas.List.Quantifiers.{position-Some}
use Rattle.cap_layout.specs.declared.piece.Piece.{Piece}
use Rattle.cap_layout.specs.Pieces.{field_piece, holds_field, is_of_section, no_piece}
use Rattle.cap_layout.specs.IsPiece.{IsPiece}

-- a field that lies in a piece ends where a piece may end
pub field_end : (pieces : List Piece) (file section offset size i : ℕ) → All IsPiece pieces → field_piece pieces file section offset size ≡ Some i → offset + size ≤ 2 ^ 62
field_end pieces file section offset size i are e =
    let found = position-Some (holds_field file section offset size) pieces i no_piece e in
    let p : Piece = get_or pieces i no_piece in
    let within : offset + size ≤ p.start + p.size = leb-true (offset + size) (p.start + p.size) (and_parts (is_of_section file section p && nat_le p.start offset) (nat_le (offset + size) (p.start + p.size)) found.1).1 in
    let high : p.start + p.size ≤ 2 ^ 62 = (are i no_piece found.0).end_high in
    omega (arith, within, high)
