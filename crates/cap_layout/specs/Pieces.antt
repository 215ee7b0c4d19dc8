-- The pieces of all sections and common symbols, in their order.
use Rattle.std.specs.Prelude.{ℕ, ◌+◌, ◌-◌, ◌^◌, min, max, Bool, true, false, not, ◌&&◌, ◌==◌, nat_le, if◌then◌else◌, List, [], ◌∷◌, ◌++◌, map, filter, filter_map, position, slice_index_or, Option, Some, None, Result, Ok}
use Rattle.std.specs.List.{enumerate_from, flat_map}
use Rattle.std.specs.Int.{w64, trailing_zeros}
use Rattle.std.specs.Option.{option_or, option_map}
use Rattle.cap_base.specs.Steps.{◌>>◌, each, in_file}
use Rattle.cap_base.specs.declared.refusal.Refusal.{Refusal}
use Rattle.cap_conc.specs.Computed.{representable_length, representable_alignment}
use Rattle.cap_elf.specs.declared.records.Class.{Class}
use Rattle.cap_elf.specs.declared.records.Class.TheVariants.{Ro, Code, Init, Fini, Relro, Data, Bss, Dropped}
use Rattle.cap_elf.specs.declared.records.Section.{Section}
use Rattle.cap_elf.specs.Classes.{is_split, same_class}
use Rattle.cap_elf.specs.RelObject.{RelObject}
use Rattle.cap_syms.specs.declared.entries.Entry.{Entry}
use Rattle.cap_syms.specs.declared.entries.Shape.{Shape}
use Rattle.cap_syms.specs.declared.entries.Shape.TheVariants as shapes
use Rattle.cap_syms.specs.Resolved.{Resolved}
use Rattle.cap_layout.specs.declared.piece.Piece.{Piece}
use Rattle.cap_layout.specs.Cuts.{intervals, overlap_of}

-- the alignment that a piece has by its place in its section
abbrev pub own_alignment : ℕ → ℕ → ℕ
own_alignment align start = if start == 0 then align else min align (2 ^ trailing_zeros w64 start)

-- a piece of a split section is aligned and padded so that its bounds are exact
abbrev pub split_piece : ℕ → ℕ → Section → ℕ × ℕ → Piece
split_piece file place section interval =
    let size = interval.1 - interval.0 in
    record {
      file = file;
      place = place;
      common = false;
      class = section.class;
      start = interval.0;
      size = size;
      align = max (own_alignment section.align interval.0) (representable_alignment size);
      padded = representable_length size;
    }

-- any other section is one piece as it is
abbrev pub whole_piece : ℕ → ℕ → Section → Piece
whole_piece file place section = record {
  file = file;
  place = place;
  common = false;
  class = section.class;
  start = 0;
  size = section.size;
  align = section.align;
  padded = section.size;
}

abbrev pub section_pieces : RelObject → ℕ → ℕ → Section → List Piece
section_pieces object file place section =
    if is_split section.class then map (split_piece file place section) (intervals object place) else whole_piece file place section ∷ []

-- the pieces of one class, in order of files, sections and starts
abbrev pub file_pieces : Class → RelObject → ℕ → List Piece
file_pieces class object file =
    flat_map (λ p. section_pieces object file p.0 p.1) (filter (λ p. same_class p.1.class class) (enumerate_from 0 object.sections))

abbrev pub class_pieces : List RelObject → Class → List Piece
class_pieces rels class = flat_map (λ p. file_pieces class p.1 p.0) (enumerate_from 0 rels)

-- the common symbols of a name are a piece by themselves, named by the one that decides on it
abbrev pub shared_piece : Entry → ℕ → ℕ → Piece
shared_piece e size align = record {
  file = e.file;
  place = e.symbol;
  common = true;
  class = Bss;
  start = 0;
  size = size;
  align = max align (representable_alignment size);
  padded = representable_length size;
}

abbrev pub common_piece : Entry → Shape → Option Piece
common_piece e (shapes.Common size align) = Some (shared_piece e size align)
common_piece e _ = None

abbrev pub common_pieces : List Resolved → List Piece
common_pieces table = filter_map (λ r. common_piece r.entry r.entry.shape) table

abbrev pub class_order : List Class
class_order = Ro ∷ Code ∷ Init ∷ Fini ∷ Relro ∷ Data ∷ Bss ∷ []

abbrev pub all_pieces : List RelObject → List Resolved → List Piece
all_pieces rels table = flat_map (class_pieces rels) class_order ++ common_pieces table

-- the piece of a common symbol, by its number in its file
abbrev pub is_common_of : ℕ → ℕ → Piece → Bool
is_common_of file symbol p = p.common && (p.file == file) && (p.place == symbol)

abbrev pub common_index : List Piece → ℕ → ℕ → Option ℕ
common_index pieces file symbol = position (is_common_of file symbol) pieces

abbrev pub entry_piece : List Piece → Entry → Shape → Option ℕ
entry_piece pieces e (shapes.Common _ _) = common_index pieces e.file e.symbol
entry_piece pieces e _ = None

-- the pieces, and for each name the number of its piece, if it is common
pub record PieceList : Type 0 where
  pub all : List Piece
  pub commons : List (Option ℕ)

abbrev pub piece_list : List RelObject → List Resolved → PieceList
piece_list rels table =
    let all = all_pieces rels table in
    record { all = all; commons = map (λ r. entry_piece all r.entry r.entry.shape) table }

-- a file whose symbols overlap is refused
unfoldable pub pieces_of : List RelObject → List Resolved → Result PieceList Refusal
pieces_of rels table =
    each (λ object. in_file object.number (overlap_of object)) rels >> Ok (piece_list rels table)

-- the piece is of this section
abbrev pub is_of_section : ℕ → ℕ → Piece → Bool
is_of_section file section p = not p.common && p.file == file && p.place == section

-- the offset is in the piece, or at its end
abbrev pub holds_offset : ℕ → ℕ → ℕ → Piece → Bool
holds_offset file section offset p =
    is_of_section file section p && nat_le p.start offset && nat_le offset (p.start + p.size)

-- a field of so many bytes lies inside the piece
abbrev pub holds_field : ℕ → ℕ → ℕ → ℕ → Piece → Bool
holds_field file section offset size p =
    is_of_section file section p && nat_le p.start offset && nat_le (offset + size) (p.start + p.size)

-- the place of the last element that passes
abbrev pub last_where : {X : Type 0} → (X → Bool) → List X → Option ℕ
last_where p [] = None
last_where p (x ∷ xs) = option_or (option_map (λ i. i + 1) (last_where p xs)) (if p x then Some 0 else None)

-- the piece of an offset of a section: the one that begins there or holds it, and at the section's end the last one. The
-- pieces of a section ascend, so where one ends and another begins the last of them is meant
abbrev pub piece_at : List Piece → ℕ → ℕ → ℕ → Option ℕ
piece_at pieces file section offset = last_where (holds_offset file section offset) pieces

-- the piece that holds a field whole
abbrev pub field_piece : List Piece → ℕ → ℕ → ℕ → ℕ → Option ℕ
field_piece pieces file section offset size = position (holds_field file section offset size) pieces

abbrev pub no_piece : Piece
no_piece = record { file = 0; place = 0; common = false; class = Dropped; start = 0; size = 0; align = 1; padded = 0 }

abbrev pub piece_of : List Piece → ℕ → Piece
piece_of pieces i = slice_index_or pieces i no_piece
