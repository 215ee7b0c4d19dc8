-- The exact bounds that a layout gives.
use Rattle.std.specs.Prelude.{◌≡◌, ℕ, ◌+◌, ◌*◌, ◌<◌, ◌≤◌, true, false, List, length, All, Some}
use Rattle.cap_conc.specs.Computed.{is_exact}
use Rattle.cap_elf.specs.declared.records.Symbol.{Symbol}
use Rattle.cap_elf.specs.Classes.{is_split}
use Rattle.cap_elf.specs.IsRelRead.{IsRelRead}
use Rattle.cap_elf.specs.RelObject.{RelObject, file_of, section_of, symbol_of}
use Rattle.cap_syms.specs.Resolved.{Resolved}
use Rattle.cap_syms.specs.IsResolved.{IsResolved}
use Rattle.cap_layout.specs.declared.piece.Piece.{Piece}
use Rattle.cap_layout.specs.declared.parts.Sizes.{Sizes}
use Rattle.cap_layout.specs.Cuts.{cuts_section}
use Rattle.cap_layout.specs.Pieces.{PieceList, piece_at, piece_of}
use Rattle.cap_layout.specs.Points.{Laid, address_of}
use Rattle.cap_layout.specs.Laid.{ArePiecesOf, IsLayoutOf}

-- wherever the file is loaded, at a multiple of its alignment, each part of a split section and each common symbol has
-- exact bounds over its padded size, as has all that is read-only once it is relocated; no two pieces share a byte of
-- their padded sizes, and all lie in the file's memory (CHERI ISA v9, CSetBoundsExact)
pub record IsExactlyLaid (laid : Laid) : Type 0 where
  pub pieces : (k i : ℕ) → i < length laid.pieces.all → is_split (piece_of laid.pieces.all i).class ≡ true → is_exact (k * laid.parts.align + address_of laid i) (piece_of laid.pieces.all i).padded ≡ true
  pub code : (k : ℕ) → is_exact (k * laid.parts.align) laid.parts.table_end ≡ true
  pub apart : (i j : ℕ) → i < j → j < length laid.pieces.all → address_of laid i + (piece_of laid.pieces.all i).padded ≤ address_of laid j
  pub within : (i : ℕ) → i < length laid.pieces.all → address_of laid i + (piece_of laid.pieces.all i).padded ≤ laid.parts.mem_end

-- the layout of inputs that were read is exact
abbrev pub LayoutsAreExact : Type 0
LayoutsAreExact =
    (rels : List RelObject) (table : List Resolved) (pieces : PieceList) (sizes : Sizes) (laid : Laid) → All IsRelRead rels
    → IsResolved rels table → ArePiecesOf rels table pieces → IsLayoutOf rels pieces sizes laid → IsExactlyLaid laid

-- the piece is the part of a section that the symbol names: it has the symbol's start and size
pub record IsPieceOfSymbol (rels : List RelObject) (file section : ℕ) (s : Symbol) (p : Piece) : Type 0 where
  pub in_file : p.file ≡ file
  pub in_section : p.place ≡ section
  pub not_common : p.common ≡ false
  pub class : p.class ≡ (section_of (file_of rels file) section).class
  pub start : p.start ≡ s.value
  pub size : p.size ≡ s.size

-- the piece that is found at a symbol's value is the symbol's
pub record HasPiece (rels : List RelObject) (pieces : List Piece) (file section : ℕ) (s : Symbol) : Type 0 where
  pub piece : ℕ
  pub inside : piece < length pieces
  pub found : piece_at pieces file section s.value ≡ Some piece
  pub is : IsPieceOfSymbol rels file section s (piece_of pieces piece)

-- each symbol that has bytes in a split section has a piece
abbrev pub CutsArePieces : Type 0
CutsArePieces =
    (rels : List RelObject) (table : List Resolved) (pieces : PieceList) (file section symbol : ℕ) → All IsRelRead rels
    → IsResolved rels table → ArePiecesOf rels table pieces → file < length rels → symbol < length (file_of rels file).symbols
    → cuts_section (file_of rels file) section (symbol_of (file_of rels file) symbol) ≡ true
    → HasPiece rels pieces.all file section (symbol_of (file_of rels file) symbol)
