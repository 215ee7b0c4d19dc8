-- The cuts of split sections: the intervals of their symbols that have bytes. Two cuts that are equal are aliases; two
-- others share no byte.
use Rattle.std.specs.Prelude.{ℕ, ◌+◌, Bool, true, false, not, ◌&&◌, ◌==◌, nat_lt, if◌then◌else◌, List, [], ◌∷◌, filter, drop, zip, fold, slice_index_or, Option, Some, None, Result, Ok, Err}
use Rattle.std.specs.List.{flat_map}
use Rattle.cap_base.specs.Steps.{fault}
use Rattle.cap_base.specs.declared.check.Check.TheVariants.{SymbolOverlap}
use Rattle.cap_base.specs.declared.refusal.Fault.{Fault}
use Rattle.cap_elf.specs.declared.records.Place.{Place}
use Rattle.cap_elf.specs.declared.records.Place.TheVariants as places
use Rattle.cap_elf.specs.declared.records.Section.{Section}
use Rattle.cap_elf.specs.declared.records.Symbol.{Symbol}
use Rattle.cap_elf.specs.Classes.{is_split}
use Rattle.cap_elf.specs.RelObject.{RelObject, no_section, section_of}
use Rattle.cap_intervals.specs.declared.interval.Interval.{Interval}
use Rattle.cap_intervals.specs.Clash.{clash}
use Rattle.cap_intervals.specs.Earlier.{first_against}

abbrev pub splits : List Section → ℕ → Bool
splits sections n = is_split (slice_index_or sections n no_section).class

abbrev pub cut_at : List Section → ℕ → Place → Option ℕ
cut_at sections size places.Undefined = None
cut_at sections size places.Absolute = None
cut_at sections size places.Common = None
cut_at sections size (places.Section n) = if splits sections n && not (size == 0) then Some n else None

-- the section that a symbol cuts: the split one in which it has bytes
abbrev pub cut_section : List Section → Symbol → Option ℕ
cut_section sections s = cut_at sections s.size s.place

abbrev pub cut_interval : Symbol → Interval
cut_interval s = record { start = s.value; end = s.value + s.size }

abbrev pub is_one_section : Option ℕ → Option ℕ → Bool
is_one_section None o = false
is_one_section (Some m) None = false
is_one_section (Some m) (Some n) = m == n

-- two unequal cuts of one section share a byte
abbrev pub overlaps : List Section → Symbol → Symbol → Bool
overlaps sections s t = is_one_section (cut_section sections s) (cut_section sections t) && clash true (cut_interval s) (cut_interval t)

abbrev pub refuse_found : Option Symbol → Result (Unit {0}) Fault
refuse_found None = Ok tt
refuse_found (Some s) = Err (fault SymbolOverlap s.at)

-- a file is refused at its first symbol that overlaps an earlier one
abbrev pub overlap_of : RelObject → Result (Unit {0}) Fault
overlap_of object = refuse_found (first_against (overlaps object.sections) object.symbols)

-- numbers in ascending order, each once
abbrev pub with_mark : List ℕ → ℕ → List ℕ
with_mark [] m = m ∷ []
with_mark (x ∷ xs) m = if m == x then x ∷ xs else if nat_lt m x then m ∷ x ∷ xs else x ∷ with_mark xs m

abbrev pub ascending : List ℕ → List ℕ
ascending ms = fold with_mark [] ms

-- the symbol cuts this section
abbrev pub cuts_section : RelObject → ℕ → Symbol → Bool
cuts_section object section s = is_one_section (Some section) (cut_section object.sections s)

-- the two ends of each cut of a section
abbrev pub cut_ends : RelObject → ℕ → List ℕ
cut_ends object section = flat_map (λ s. s.value ∷ (s.value + s.size) ∷ []) (filter (cuts_section object section) object.symbols)

-- the marks of a section: its two ends, and the two ends of each cut
abbrev pub marks : RelObject → ℕ → List ℕ
marks object section = ascending (0 ∷ (section_of object section).size ∷ cut_ends object section)

-- what lies between neighbouring marks: the cuts, and the gaps between them. A section of size 0 is one interval
abbrev pub intervals : RelObject → ℕ → List (ℕ × ℕ)
intervals object section =
    if (section_of object section).size == 0 then (0, 0) ∷ [] else zip (marks object section) (drop 1 (marks object section))
