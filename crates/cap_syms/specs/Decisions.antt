-- How the occurrences of one name decide on it.
use Rattle.std.specs.Prelude.{ℕ, Bool, true, false, not, ◌&&◌, ◌||◌, ◌==◌, max, if◌then◌else◌, List, map, filter, find, fold, drop, Option, unwrap_or, slice_get}
use Rattle.std.specs.List.{list_any}
use Rattle.std.specs.Option.{option_or, option_map}
use Rattle.cap_syms.specs.declared.entries.Entry.{Entry}
use Rattle.cap_syms.specs.declared.entries.Shape.{Shape}
use Rattle.cap_syms.specs.declared.entries.Shape.TheVariants as shapes
use Rattle.cap_syms.specs.declared.entries.Bound.{Bound}
use Rattle.cap_syms.specs.declared.entries.Bound.TheVariants as bounds
use Rattle.cap_syms.specs.Occurrences.{Occurrence, is_global, is_weak, is_definition_at, is_common_at}

abbrev pub is_global_definition : Occurrence → Bool
is_global_definition o = is_global o.as_is && is_definition_at o.as_is.place

abbrev pub is_weak_definition : Occurrence → Bool
is_weak_definition o = is_weak o.as_is && is_definition_at o.as_is.place

abbrev pub is_common : Occurrence → Bool
is_common o = is_common_at o.as_is.place

-- the global definitions after the first
abbrev pub further_definitions : List Occurrence → List Occurrence
further_definitions os = drop 1 (filter is_global_definition os)

abbrev pub largest : List ℕ → ℕ
largest ns = fold max 0 ns

-- common symbols of one name are merged: the largest size, and the largest alignment, which is their value
abbrev pub merged : List Occurrence → Shape
merged os =
    let commons = filter is_common os in
    shapes.Common (largest (map (λ o. o.as_is.size) commons)) (largest (map (λ o. o.as_is.value) commons))

-- the most constraining visibility: internal, hidden, protected, and else default
abbrev pub some_visible : List Occurrence → ℕ → Bool
some_visible os visibility = list_any (λ o. o.as_is.visibility == visibility) os

abbrev pub visibility_of : List Occurrence → ℕ
visibility_of os =
    if some_visible os 1 then 1 else if some_visible os 2 then 2 else if some_visible os 3 then 3 else 0

-- the occurrence decides, and the name has this shape
abbrev pub decided : List Occurrence → Shape → Option Occurrence → Option Entry
decided os shape o = option_map (λ o. record { file = o.file; symbol = o.symbol; shape = shape; visibility = visibility_of os }) o

abbrev pub no_entry : Entry
no_entry = record { file = 0; symbol = 0; shape = shapes.Absent true; visibility = 0 }

-- the first of these cases: a global definition, a common symbol, a weak definition, a global reference, any reference
abbrev pub entry_of : List Occurrence → Entry
entry_of os =
    unwrap_or
    (option_or (decided os shapes.Defined (find is_global_definition os))
    (option_or (decided os (merged os) (find is_common os))
    (option_or (decided os shapes.Defined (find is_weak_definition os))
    (option_or (decided os (shapes.Absent false) (find (λ o. is_global o.as_is) os))
    (decided os (shapes.Absent true) (slice_get os 0))))))
    no_entry

abbrev pub is_present : Shape → Bool
is_present (shapes.Absent _) = false
is_present _ = true

abbrev pub is_weakly_absent : Shape → Bool
is_weakly_absent (shapes.Absent weak) = weak
is_weakly_absent _ = false

abbrev pub is_strongly_absent : Shape → Bool
is_strongly_absent (shapes.Absent weak) = not weak
is_strongly_absent _ = false

abbrev pub is_merged : Shape → Bool
is_merged (shapes.Common _ _) = true
is_merged _ = false

-- default visibility
abbrev pub is_default : ℕ → Bool
is_default visibility = visibility == 0

-- a name is bound here where it is there, and the output is a program or the name is not visible by default
abbrev pub bound_of : Bool → Entry → Bound
bound_of program e =
    if is_present e.shape && (program || not (is_default e.visibility)) then bounds.Local
    else if is_weakly_absent e.shape && not (is_default e.visibility) then bounds.Zero
    else bounds.Dynamic
