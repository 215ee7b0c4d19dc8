-- Worked layouts, by computation.
use Rattle.std.proofs.Common.{◌≡◌, ℕ, zero, suc, ◌+◌, false, List, [], ◌∷◌, refl, sym, subst, arith, pos, Some, None, Err}
use Rattle.std.specs.Prelude.{All, map, codes}
use Rattle.cap_base.specs.declared.refusal.Refusal.TheVariants.{Malformed, Full}
use Rattle.cap_base.specs.Check.{row_of}
use Rattle.cap_conc.specs.Computed.{representable_length, representable_alignment}
use Rattle.cap_elf.specs.declared.records.Class.TheVariants.{Data}
use Rattle.cap_elf.specs.declared.records.Section.{Section}
use Rattle.cap_elf.specs.declared.records.Reloc.{Reloc}
use Rattle.cap_elf.specs.declared.records.Place.TheVariants as places
use Rattle.cap_elf.specs.declared.records.Symbol.{Symbol}
use Rattle.cap_elf.specs.RelObject.{RelObject, no_section}
use Rattle.cap_elf.specs.Records.{null_symbol}
use Rattle.cap_layout.specs.declared.piece.Piece.{Piece}
use Rattle.cap_layout.specs.declared.parts.Parts.{Parts}
use Rattle.cap_layout.specs.declared.parts.Sizes.{Sizes}
use Rattle.cap_layout.specs.IsPiece.{IsPiece}
use Rattle.cap_layout.specs.Pieces.{PieceList, all_pieces}
use Rattle.cap_layout.specs.Parts.{parts_of, addresses_of, code_range_end, whole_alignment}
use Rattle.cap_layout.specs.Points.{point_of, interval_of}
use Rattle.cap_layout.specs.Laid.{laid_as, lay_of, ends_low, is_aligned}

abbrev data_section : ℕ → ℕ → Section
data_section size align = record { class = Data; size = size; align = align; offset = 0; at = 0 }

abbrev object_in : ℕ → ℕ → ℕ → Symbol
object_in section value size = record { binding = 1; kind = 1; visibility = 0; place = places.Section section; value = value; size = size; at = 0 }

abbrev label_in : ℕ → ℕ → Symbol
label_in section value = record { binding = 0; kind = 0; visibility = 0; place = places.Section section; value = value; size = 0; at = 0 }

-- three sections with a symbol each, and a label in the second
abbrev three_with : List Reloc → RelObject
three_with relocs = record {
  number = 7;
  flags = 0x30000;
  sections = no_section ∷ data_section 1 1 ∷ data_section 5001 1 ∷ data_section 100000 1 ∷ [];
  symbols = null_symbol 0 ∷ object_in 1 0 1 ∷ object_in 2 0 5001 ∷ object_in 3 0 100000 ∷ label_in 2 16 ∷ [];
  names = [] ∷ codes "a" ∷ codes "b" ∷ codes "c" ∷ [] ∷ [];
  relocs = relocs;
  contents = [];
}

abbrev three : RelObject
three = three_with []

abbrev three_sizes : Sizes
three_sizes = record { symbols = 4; relas = 0; cap_relocs = 0; names = 7; slots = 0; stubs = 0; dynamics = 6 }

abbrev three_pieces : PieceList
three_pieces = record { all = all_pieces (three ∷ []) []; commons = [] }

pub three-addresses : addresses_of three_pieces.all three_sizes ≡ 0x2000 ∷ 0x2008 ∷ 0x3400 ∷ []
unfolding representable_length representable_alignment lib.Count.count_leading_zeros lib.Count.count_trailing_zeros
three-addresses = refl

three-padded : map (λ p. p.padded) three_pieces.all ≡ 1 ∷ 5008 ∷ 100096 ∷ []
unfolding representable_length representable_alignment lib.Count.count_leading_zeros lib.Count.count_trailing_zeros
three-padded = refl

abbrev three_parts : Parts
three_parts = parts_of three_pieces.all three_sizes

abbrev some_places : Parts → List ℕ
some_places p =
    p.hash_at ∷ p.names_at ∷ p.ro_end ∷ p.code_start ∷ p.code_end ∷ p.table_start ∷ p.table_end ∷ p.file_end ∷ p.align ∷ []

three-places : some_places three_parts ≡ 0x1F0 ∷ 0x210 ∷ 0x217 ∷ 0x1000 ∷ 0x1000 ∷ 0x1000 ∷ 0x2000 ∷ 0x1BB00 ∷ 4096 ∷ []
unfolding representable_length representable_alignment lib.Count.count_leading_zeros lib.Count.count_trailing_zeros
three-places = refl

-- a symbol's interval is padded
three-interval : interval_of (laid_as (three ∷ []) three_pieces three_sizes) 0 2 ≡ Some (0x2008, 5008)
unfolding representable_length representable_alignment lib.Count.count_leading_zeros lib.Count.count_trailing_zeros
three-interval = refl

-- a symbol's point is its address and the addend, also past the symbol
three-point : point_of (laid_as (three ∷ []) three_pieces three_sizes) 0 2 (pos 6000) ≡ Some (0x2008 + 6000)
unfolding representable_length representable_alignment lib.Count.count_leading_zeros lib.Count.count_trailing_zeros
three-point = refl

-- a label's is the place that both lead to, and past its section there is none
three-label : point_of (laid_as (three ∷ []) three_pieces three_sizes) 0 4 (pos 4) ≡ Some (0x2008 + 20)
unfolding representable_length representable_alignment lib.Count.count_leading_zeros lib.Count.count_trailing_zeros
three-label = refl

three-beyond : point_of (laid_as (three ∷ []) three_pieces three_sizes) 0 4 (pos 6000) ≡ None
unfolding representable_length representable_alignment lib.Count.count_leading_zeros lib.Count.count_trailing_zeros
three-beyond = refl

-- a capability at 0x2008, in the second section
abbrev capability : Reloc
capability = record { section = 2; offset = 0; kind = 193; symbol = 1; addend = pos 0; at = 0x500 }

three-misaligned : lay_of (three_with (capability ∷ []) ∷ []) three_pieces three_sizes ≡ Err (Malformed 7 72 0x500)
unfolding lay_of ends_low is_aligned row_of representable_length representable_alignment lib.Count.count_leading_zeros lib.Count.count_trailing_zeros
three-misaligned = refl

-- the first end above 2 ^ 26 is asked for
large-refused : lay_of [] (record { all = []; commons = [] }) (record { symbols = 0; relas = 0; cap_relocs = 0; names = 0x4000000; slots = 1; stubs = 1; dynamics = 1 }) ≡ Err (Full 0x400019C 0)
unfolding lay_of ends_low representable_length representable_alignment lib.Count.count_leading_zeros
large-refused = refl

-- the end of what is read-only after loading, and the alignment that its range wants
range-exact : code_range_end 0x3FFFF1 ≡ 0x400000
unfolding representable_length representable_alignment lib.Count.count_leading_zeros
range-exact = refl

range-below : code_range_end 0x3FE001 ≡ 0x3FF000
unfolding representable_length representable_alignment lib.Count.count_leading_zeros
range-below = refl

range-rounded : code_range_end 0x400001 ≡ 0x402000
unfolding representable_length representable_alignment lib.Count.count_leading_zeros
range-rounded = refl

alignment-exact : whole_alignment [] 0x400000 ≡ 8192
unfolding representable_length representable_alignment lib.Count.count_leading_zeros
alignment-exact = refl

alignment-below : whole_alignment [] 0x3FF000 ≡ 4096
unfolding representable_length representable_alignment lib.Count.count_leading_zeros
alignment-below = refl

alignment-rounded : whole_alignment [] 0x402000 ≡ 8192
unfolding representable_length representable_alignment lib.Count.count_leading_zeros
alignment-rounded = refl

-- the three are pieces, with the alignment and the padding that their bounds want
abbrev pub data_piece : ℕ → ℕ → ℕ → ℕ → Piece
data_piece section size align padded = record { file = 0; place = section; common = false; class = Data; start = 0; size = size; align = align; padded = padded }

first : IsPiece (data_piece 1 1 1 1)
unfolding representable_length representable_alignment lib.Count.ones
first = record { align_power = refl; size_high = omega arith; end_high = omega arith; kept = refl; padded = refl; representable = λ h. omega arith }

second : IsPiece (data_piece 2 5001 8 5008)
unfolding representable_length representable_alignment lib.Count.ones lib.Count.count_leading_zeros
second = record { align_power = refl; size_high = omega arith; end_high = omega arith; kept = refl; padded = refl; representable = λ h. omega arith }

third : IsPiece (data_piece 3 100000 128 100096)
unfolding representable_length representable_alignment lib.Count.ones lib.Count.count_leading_zeros
third = record { align_power = refl; size_high = omega arith; end_high = omega arith; kept = refl; padded = refl; representable = λ h. omega arith }

pub three_are : (a b c : Piece) → a ≡ data_piece 1 1 1 1 → b ≡ data_piece 2 5001 8 5008 → c ≡ data_piece 3 100000 128 100096 → All IsPiece (a ∷ b ∷ c ∷ [])
three_are a b c e f g zero d lt = subst IsPiece (sym e) first
three_are a b c e f g (suc zero) d lt = subst IsPiece (sym f) second
three_are a b c e f g (suc (suc zero)) d lt = subst IsPiece (sym g) third
three_are a b c e f g (suc (suc (suc k))) d lt = absurd (omega (arith, lt))

three-pieces : three_pieces.all ≡ data_piece 1 1 1 1 ∷ data_piece 2 5001 8 5008 ∷ data_piece 3 100000 128 100096 ∷ []
unfolding representable_length representable_alignment lib.Count.count_leading_zeros lib.Count.count_trailing_zeros
three-pieces = refl
