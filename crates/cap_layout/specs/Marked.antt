-- The pieces of a section by its marks.
use Rattle.std.specs.Prelude.{ℕ, ◌+◌, ◌<◌, ◌≤◌, ◌==◌, if◌then◌else◌, List, [], ◌∷◌, map, zip, drop, length, slice_index, slice_index_or, slice_set, ◌++◌, Option, Some, None}
use Rattle.std.specs.List.{range_with_len}
use Rattle.cap_elf.specs.declared.records.Section.{Section}
use Rattle.cap_elf.specs.declared.records.Symbol.{Symbol}
use Rattle.cap_elf.specs.Classes.{is_split}
use Rattle.cap_elf.specs.RelObject.{RelObject, no_section}
use Rattle.cap_layout.specs.declared.piece.Piece.{Piece}
use Rattle.cap_layout.specs.Cuts.{ascending, marks, cut_section}
use Rattle.cap_layout.specs.Pieces.{split_piece, whole_piece}

-- the marks of each section of a file
abbrev pub mark_lists : RelObject → List (List ℕ)
mark_lists object = map (marks object) (range_with_len 0 (length object.sections))

-- what lies between neighbouring marks of a section of this size
abbrev pub between : ℕ → List ℕ → List (ℕ × ℕ)
between size marks = if size == 0 then (0, 0) ∷ [] else zip marks (drop 1 marks)

-- the pieces of a section, which these marks cut if it is split
abbrev pub cut_pieces : ℕ → ℕ → Section → List ℕ → List Piece
cut_pieces file place section marks =
    if is_split section.class then map (split_piece file place section) (between section.size marks) else whole_piece file place section ∷ []

-- each mark is below the next, and none is above the size
abbrev pub AreMarksOf : ℕ → List ℕ → Type 0
AreMarksOf size marks = ((k : ℕ) → k + 1 < length marks → slice_index marks k < slice_index marks (k + 1)) × ((k : ℕ) → k < length marks → slice_index marks k ≤ size)

-- where a section begins
abbrev pub start_of : Section → List ℕ
start_of s = 0 ∷ []

-- one list more grows, where there is a section
abbrev pub with_cut_at : List (List ℕ) → Symbol → Option ℕ → List (List ℕ)
with_cut_at lists s None = lists
with_cut_at lists s (Some n) = slice_set lists n (slice_index_or lists n [] ++ s.value ∷ (s.value + s.size) ∷ [])

-- the two ends of the cut of a symbol go to the list of its section
abbrev pub with_cut : List Section → List (List ℕ) → Symbol → List (List ℕ)
with_cut sections lists s = with_cut_at lists s (cut_section sections s)

-- the marks of a section, of whose list the end is still missing
abbrev pub closed : List Section → List (List ℕ) → ℕ → List ℕ
closed sections lists n = ascending (slice_index_or lists n [] ++ (slice_index_or sections n no_section).size ∷ [])
