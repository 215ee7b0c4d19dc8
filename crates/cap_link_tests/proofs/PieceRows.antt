-- Worked pieces, by computation.
use Rattle.std.specs.Prelude.{◌≡◌, ℕ, [], ◌∷◌, map, codes, refl, Some, Err, None}
use Rattle.cap_base.specs.Check.{row_of}
use Rattle.cap_base.specs.declared.refusal.Refusal.TheVariants.{Malformed}
use Rattle.cap_elf.specs.declared.records.Class.TheVariants.{Data}
use Rattle.cap_elf.specs.declared.records.Section.{Section}
use Rattle.cap_elf.specs.declared.records.Place.TheVariants as places
use Rattle.cap_elf.specs.declared.records.Symbol.{Symbol}
use Rattle.cap_elf.specs.RelObject.{RelObject, no_section}
use Rattle.cap_elf.specs.Records.{null_symbol}
use Rattle.cap_conc.specs.Computed.{representable_length, representable_alignment}
use Rattle.cap_layout.specs.Cuts.{intervals}
use Rattle.cap_layout.specs.Pieces.{all_pieces, pieces_of, piece_at, field_piece}

abbrev data_section : ℕ → ℕ → Section
data_section size align = record { class = Data; size = size; align = align; offset = 0; at = 0 }

abbrev object_at : ℕ → ℕ → ℕ → ℕ → Symbol
object_at section value size at = record { binding = 1; kind = 1; visibility = 0; place = places.Section section; value = value; size = size; at = at }

-- three sections with a symbol each
abbrev three : RelObject
three = record {
  number = 0;
  flags = 0x30000;
  sections = no_section ∷ data_section 1 1 ∷ data_section 5001 1 ∷ data_section 100000 1 ∷ [];
  symbols = null_symbol 0 ∷ object_at 1 0 1 0x100 ∷ object_at 2 0 5001 0x118 ∷ object_at 3 0 100000 0x130 ∷ [];
  names = [] ∷ codes "a" ∷ codes "b" ∷ codes "c" ∷ [];
  relocs = [];
  contents = [];
}

pub three_padded : map (λ p. p.padded) (all_pieces (three ∷ []) []) ≡ 1 ∷ 5008 ∷ 100096 ∷ []
unfolding representable_length lib.Count.count_leading_zeros
three_padded = refl

pub three_aligned : map (λ p. p.align) (all_pieces (three ∷ []) []) ≡ 1 ∷ 8 ∷ 128 ∷ []
unfolding representable_length representable_alignment lib.Count.count_leading_zeros
three_aligned = refl

-- a section of 32 bytes whose second symbol overlaps the first
abbrev overlapping : RelObject
overlapping = record {
  number = 3;
  flags = 0x30000;
  sections = no_section ∷ data_section 32 16 ∷ [];
  symbols = null_symbol 0 ∷ object_at 1 0 16 0x130 ∷ object_at 1 8 16 0x148 ∷ [];
  names = [] ∷ codes "a" ∷ codes "b" ∷ [];
  relocs = [];
  contents = [];
}

pub overlapping_refused : pieces_of (overlapping ∷ []) [] ≡ Err (Malformed 3 71 0x148)
unfolding pieces_of row_of
overlapping_refused = refl

-- gaps before, between and after the cuts; equal intervals are one piece
abbrev gapped : RelObject
gapped = record {
  number = 0;
  flags = 0x30000;
  sections = no_section ∷ data_section 100 4 ∷ data_section 0 8 ∷ [];
  symbols = null_symbol 0 ∷ object_at 1 60 10 0x100 ∷ object_at 1 4 16 0x118 ∷ object_at 1 20 20 0x130 ∷ object_at 1 4 16 0x148 ∷ [];
  names = [];
  relocs = [];
  contents = [];
}

pub gapped_intervals : intervals gapped 1 ≡ (0, 4) ∷ (4, 20) ∷ (20, 40) ∷ (40, 60) ∷ (60, 70) ∷ (70, 100) ∷ []
gapped_intervals = refl

pub empty_interval : intervals gapped 2 ≡ (0, 0) ∷ []
empty_interval = refl

-- where two pieces meet, an offset is in the second, and a field of no bytes in the first; the end is in the last
pub at_boundary : piece_at (all_pieces (gapped ∷ []) []) 0 1 20 ≡ Some 2
at_boundary = refl

pub none_at_boundary : field_piece (all_pieces (gapped ∷ []) []) 0 1 20 0 ≡ Some 1
none_at_boundary = refl

pub at_end : piece_at (all_pieces (gapped ∷ []) []) 0 1 100 ≡ Some 5
at_end = refl

pub past_end : piece_at (all_pieces (gapped ∷ []) []) 0 1 101 ≡ None
past_end = refl

pub across_boundary : field_piece (all_pieces (gapped ∷ []) []) 0 1 18 4 ≡ None
across_boundary = refl

-- all of them
pub ruleset worked_rows = (three_padded, three_aligned, overlapping_refused, gapped_intervals, empty_interval, at_boundary, none_at_boundary, at_end, past_end, across_boundary)
