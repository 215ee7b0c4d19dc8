-- The addresses of symbols, and of places beside them.
use Rattle.std.specs.Prelude.{ℕ, ◌+◌, ◌-◌, ◌%◌, ◌^◌, Bool, not, ◌&&◌, ◌||◌, ◌==◌, if◌then◌else◌, ℤ, pos, ◌+ℤ◌, nat_abs, List, slice_index, Option, Some, None}
use Rattle.std.specs.Option.{option_map, option_and_then}
use Rattle.std.specs.Int.{cast_unsigned, is_negative, w64}
use Rattle.cap_elf.specs.declared.records.Class.{Class}
use Rattle.cap_elf.specs.declared.records.Place.{Place}
use Rattle.cap_elf.specs.declared.records.Place.TheVariants as places
use Rattle.cap_elf.specs.declared.records.Symbol.{Symbol}
use Rattle.cap_elf.specs.Classes.{is_split}
use Rattle.cap_elf.specs.RelObject.{RelObject, file_of, section_of, symbol_of}
use Rattle.cap_layout.specs.declared.parts.Parts.{Parts}
use Rattle.cap_layout.specs.Pieces.{PieceList, piece_at, piece_of, common_index}

-- the layout of inputs: the pieces, their addresses, and where each part of the file stands
pub record Laid : Type 0 where
  pub rels : List RelObject
  pub pieces : PieceList
  pub addresses : List ℕ
  pub parts : Parts

abbrev pub symbol_at : Laid → ℕ → ℕ → Symbol
symbol_at laid file symbol = symbol_of (file_of laid.rels file) symbol

abbrev pub class_at : Laid → ℕ → ℕ → Class
class_at laid file section = (section_of (file_of laid.rels file) section).class

abbrev pub address_of : Laid → ℕ → ℕ
address_of laid piece = slice_index laid.addresses piece

-- the address of an offset of a section: that of its piece, and as far beyond as the offset is beyond the piece's start
abbrev pub place_address : Laid → ℕ → ℕ → ℕ → Option ℕ
place_address laid file section offset =
    option_map (λ i. address_of laid i + (offset - (piece_of laid.pieces.all i).start)) (piece_at laid.pieces.all file section offset)

-- a whole number modulo 2 ^ 64
abbrev pub wrapped : ℤ → ℕ
wrapped z = cast_unsigned w64 z % 2 ^ 64

-- the offset that a value and an addend name, where it is not below 0
abbrev pub offset_of : ℕ → ℤ → Option ℕ
offset_of value addend =
    let z = pos value +ℤ addend in
    if is_negative z then None else Some (nat_abs z)

-- in a split section, the symbol of the section and a local symbol of size 0 stand for places and not for an interval
abbrev pub is_loose : Class → Symbol → Bool
is_loose class s = is_split class && (s.kind == 3 || (s.binding == 0 && (s.size == 0)))

abbrev pub section_point : Laid → ℕ → ℕ → Symbol → ℤ → Option ℕ
section_point laid file section s addend =
    if is_loose (class_at laid file section) s then option_and_then (place_address laid file section) (offset_of s.value addend)
    else option_map (λ a. wrapped (pos a +ℤ addend)) (place_address laid file section s.value)

abbrev pub common_point : Laid → ℕ → ℕ → ℤ → Option ℕ
common_point laid file symbol addend =
    option_map (λ i. wrapped (pos (address_of laid i) +ℤ addend)) (common_index laid.pieces.all file symbol)

abbrev pub placed_point : Laid → ℕ → ℕ → Symbol → ℤ → Place → Option ℕ
placed_point laid file symbol s addend (places.Section section) = section_point laid file section s addend
placed_point laid file symbol s addend places.Common = common_point laid file symbol addend
placed_point laid file symbol s addend _ = None

-- the address that a symbol and an addend name
abbrev pub point_of : Laid → ℕ → ℕ → ℤ → Option ℕ
point_of laid file symbol addend =
    let s = symbol_at laid file symbol in placed_point laid file symbol s addend s.place

abbrev pub piece_interval : Laid → ℕ → ℕ × ℕ
piece_interval laid i = (address_of laid i, (piece_of laid.pieces.all i).padded)

-- a symbol of size above 0 in a split section has the interval of its piece, padded
abbrev pub section_interval : Laid → ℕ → ℕ → Symbol → Option (ℕ × ℕ)
section_interval laid file section s =
    if is_split (class_at laid file section) && not (s.size == 0) then option_map (piece_interval laid) (piece_at laid.pieces.all file section s.value)
    else option_map (λ a. (a, s.size)) (place_address laid file section s.value)

abbrev pub placed_interval : Laid → ℕ → ℕ → Symbol → Place → Option (ℕ × ℕ)
placed_interval laid file symbol s (places.Section section) = section_interval laid file section s
placed_interval laid file symbol s places.Common =
    option_map (piece_interval laid) (common_index laid.pieces.all file symbol)
placed_interval laid file symbol s _ = None

abbrev pub interval_of : Laid → ℕ → ℕ → Option (ℕ × ℕ)
interval_of laid file symbol =
    let s = symbol_at laid file symbol in placed_interval laid file symbol s s.place

abbrev pub placed_piece : Laid → ℕ → ℕ → Symbol → Place → Option ℕ
placed_piece laid file symbol s (places.Section section) = piece_at laid.pieces.all file section s.value
placed_piece laid file symbol s places.Common = common_index laid.pieces.all file symbol
placed_piece laid file symbol s _ = None

-- the piece in which a symbol stands
abbrev pub symbol_piece : Laid → ℕ → ℕ → Option ℕ
symbol_piece laid file symbol =
    let s = symbol_at laid file symbol in placed_piece laid file symbol s s.place
