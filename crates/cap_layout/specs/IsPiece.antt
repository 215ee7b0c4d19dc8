-- What holds of each piece, and of each layout.
use Rattle.std.specs.Prelude.{◌≡◌, ◌+◌, ◌^◌, ◌<◌, ◌≤◌, true, false, if◌then◌else◌, List, length, IsTrue}
use Rattle.std.specs.Int.{is_power_of_two}
use Rattle.cap_conc.specs.Computed.{representable_length, representable_alignment}
use Rattle.cap_elf.specs.Classes.{is_kept, is_split, is_bss}
use Rattle.cap_elf.specs.RelObject.{RelObject, file_of, section_of}
use Rattle.cap_layout.specs.declared.piece.Piece.{Piece}
use Rattle.cap_layout.specs.Places.{ArePlaced}
use Rattle.cap_layout.specs.Points.{Laid}

-- a piece is aligned to a power of two, and takes the place of its padded size: a part of a split section, or a common
-- symbol, the least representable length, at a multiple of the representable alignment
pub record IsPiece (p : Piece) : Type 0 where
  pub align_power : IsTrue (is_power_of_two p.align)
  pub size_high : p.size ≤ 2 ^ 62
  pub end_high : p.start + p.size ≤ 2 ^ 62
  pub kept : is_kept p.class ≡ true
  pub padded : p.padded ≡ (if is_split p.class then representable_length p.size else p.size)
  pub representable : is_split p.class ≡ true → representable_alignment p.size ≤ p.align

-- the piece is a part of a section of an input, or one of its common symbols
pub record IsPieceOf (rels : List RelObject) (p : Piece) : Type 0 where
  pub file : p.file < length rels
  pub section : p.common ≡ false → p.place < length (file_of rels p.file).sections
  pub class : p.common ≡ false → (section_of (file_of rels p.file) p.place).class ≡ p.class
  pub within : p.common ≡ false → p.start + p.size ≤ (section_of (file_of rels p.file) p.place).size
  pub zeros : p.common ≡ true → is_bss p.class ≡ true

-- each piece has its address, aligned and not below the padded end of the piece before it, and the file's memory ends at
-- 2 ^ 26 at most
pub record IsLaid (laid : Laid) : Type 0 where
  pub count : length laid.addresses ≡ length laid.pieces.all
  pub placed : ArePlaced 0 laid.pieces.all laid.addresses
  pub low : laid.parts.mem_end ≤ 2 ^ 26
