-- The range of code, part by part.
use Rattle.std.specs.Prelude.{ℕ, Bool, not, ◌&&◌, List, [], ◌∷◌, ◌++◌, map, filter, Option, Some, None, if◌then◌else◌}
use Rattle.cap_elf.specs.declared.records.Segment.{Segment}
use Rattle.cap_elf.specs.Ends.{end_of, writes, has_memory}
use Rattle.cap_fits.specs.Places.{hull, unless_empty}

-- the least interval that holds another one, if there is one, and these
abbrev pub hull_from : Option (ℕ × ℕ) → List (ℕ × ℕ) → Option (ℕ × ℕ)
hull_from range [] = range
hull_from None (part ∷ parts) = hull_from (Some part) parts
hull_from (Some range) (part ∷ parts) = hull_from (Some (hull range part)) parts

-- the segment isn't written, and has an address
abbrev pub is_fixed : Segment → Bool
is_fixed s = not (writes s) && has_memory s

abbrev pub interval_of_segment : Segment → ℕ × ℕ
interval_of_segment s = (s.vaddr, end_of s)

-- the segment, if it is never written
abbrev pub fixed_part : Segment → List (ℕ × ℕ)
fixed_part s = if is_fixed s then interval_of_segment s ∷ [] else []

-- the fixed parts of these segments, and of the range that is read-only once it is relocated
abbrev pub fixed_from : List Segment → Option (ℕ × ℕ) → List (ℕ × ℕ)
fixed_from segments relro = map interval_of_segment (filter is_fixed segments) ++ unless_empty relro
