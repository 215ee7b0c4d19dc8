-- Where an interval of addresses stands in a shared object, before it is placed (gABI, "Program Header"), and which rights
-- its place gives.
use Rattle.std.specs.Prelude.{ℕ, ◌+◌, Bool, true, false, not, ◌&&◌, ◌||◌, ◌==◌, nat_lt, nat_le, bit_and, min, max, List, [], ◌∷◌, ◌++◌, map, filter, Option, Some, None, if◌then◌else◌}
use Rattle.std.specs.List.{list_any, reduce}
use Rattle.std.specs.Option.{option_or}
use Rattle.cap_elf.specs.declared.records.Segment.{Segment}
use Rattle.cap_elf.specs.declared.records.Symbol.{Symbol}
use Rattle.cap_elf.specs.declared.records.Place.{Place}
use Rattle.cap_elf.specs.declared.records.Place.TheVariants.{Undefined, Absolute, Common, Section}
use Rattle.cap_elf.specs.Ends.{end_of, writes, spans, has_memory}
use Rattle.cap_elf.specs.DynView.{DynRecords}

-- PF_X: the segment's bytes can be executed
abbrev pub executes : Segment → Bool
executes s = bit_and s.flags 1 == 1

-- the segment has the address
abbrev pub has_address : Segment → ℕ → Bool
has_address s at = nat_le s.vaddr at && nat_lt at (end_of s)

-- the address is in a segment of code
abbrev pub is_in_code : DynRecords → ℕ → Bool
is_in_code object at = list_any (λ s. executes s && has_address s at) object.segments

-- the interval lies in one writable segment
abbrev pub is_in_writable : DynRecords → ℕ → ℕ → Bool
is_in_writable object at len = list_any (λ s. writes s && spans s at len) object.segments

-- the interval begins in the range, and doesn't pass its end
abbrev pub is_inside : Option (ℕ × ℕ) → ℕ → ℕ → Bool
is_inside None at len = false
is_inside (Some range) at len = nat_le range.0 at && nat_lt at range.1 && nat_le (at + len) range.1

-- there is no range, or the interval ends before it or begins behind it
abbrev pub is_clear_of : Option (ℕ × ℕ) → ℕ → ℕ → Bool
is_clear_of None at len = true
is_clear_of (Some range) at len = nat_le (at + len) range.0 || nat_le range.1 at

-- the rights that this project gives to data, by the permissions of CHERI ISA v9: GLOBAL, LOAD and LOAD_CAP; and where it
-- may be written, STORE, STORE_CAP and STORE_LOCAL_CAP too
abbrev pub reading : ℕ
reading = 0x15

abbrev pub writing : ℕ
writing = 0x7D

-- the permissions to the data of an interval of this segment
abbrev pub permissions_in : DynRecords → ℕ → ℕ → Segment → Option ℕ
permissions_in object at len s =
    if not (writes s) || is_inside object.relro at len then Some reading else
    if is_clear_of object.relro at len then Some writing else None

abbrev pub permissions_of_part : DynRecords → ℕ → ℕ → Option Segment → Option ℕ
permissions_of_part object at len None = None
permissions_of_part object at len (Some s) = permissions_in object at len s

-- the last element that passes
abbrev pub find_last : {X : Type 0} → (X → Bool) → List X → Option X
find_last p [] = None
find_last p (x ∷ xs) = option_or (find_last p xs) (if p x then Some x else None)

-- the permissions to the data of an interval, which belongs to the last segment that holds it: none where no segment
-- does, and none where the interval is neither read-only nor writable
abbrev pub data_permissions : DynRecords → ℕ → ℕ → Option ℕ
data_permissions object at len = permissions_of_part object at len (find_last (λ s. spans s at len) object.segments)

-- a range, where it isn't empty
abbrev pub unless_empty : Option (ℕ × ℕ) → List (ℕ × ℕ)
unless_empty None = []
unless_empty (Some range) = if nat_lt range.0 range.1 then range ∷ [] else []

-- the parts of an object that are not written once it is relocated: those of its segments without PF_W, and its
-- PT_GNU_RELRO
abbrev pub fixed_parts : DynRecords → List (ℕ × ℕ)
fixed_parts object =
    map (λ s. (s.vaddr, end_of s)) (filter (λ s. not (writes s) && has_memory s) object.segments) ++ unless_empty object.relro

-- the least interval that holds two
abbrev pub hull : ℕ × ℕ → ℕ × ℕ → ℕ × ℕ
hull a b = (min a.0 b.0, max a.1 b.1)

-- the least interval that holds all of them, where there is one: what a capability to code covers
abbrev pub code_range : DynRecords → Option (ℕ × ℕ)
code_range object = reduce hull (fixed_parts object)

-- SHN_ABS
abbrev pub is_absolute : Place → Bool
is_absolute Undefined = false
is_absolute Absolute = true
is_absolute Common = false
is_absolute (Section n) = false

-- STT_FUNC
abbrev pub is_function : Symbol → Bool
is_function s = s.kind == 2
