-- What relocations refer to.
use Rattle.std.specs.Prelude.{ℕ, Bool, true, false, not, ◌&&◌, ◌||◌, ◌==◌, nat_le, if◌then◌else◌, ℤ, pos, ◌+ℤ◌, List, Some, None, unwrap_or}
use Rattle.std.specs.Option.{option_map_or}
use Rattle.cap_elf.specs.declared.records.Class.{Class}
use Rattle.cap_elf.specs.declared.records.Class.TheVariants.{Bss, Dropped}
use Rattle.cap_elf.specs.declared.records.Place.{Place}
use Rattle.cap_elf.specs.declared.records.Place.TheVariants as places
use Rattle.cap_elf.specs.RelObject.{RelObject, file_of, symbol_of, name_of, section_of}
use Rattle.cap_syms.specs.declared.entries.Shape.{Shape}
use Rattle.cap_syms.specs.declared.entries.Shape.TheVariants as shapes
use Rattle.cap_syms.specs.declared.entries.Bound.{Bound}
use Rattle.cap_syms.specs.declared.entries.Bound.TheVariants as bounds
use Rattle.cap_syms.specs.Occurrences.{is_local}
use Rattle.cap_syms.specs.Resolved.{Resolved, row_of, index_of}
use Rattle.cap_layout.specs.Points.{is_loose, offset_of, wrapped}
use Rattle.cap_table.specs.declared.target.Target.{Target}

-- the relocatable inputs, and the table of their names
pub record Named : Type 0 where
  pub rels : List RelObject
  pub table : List Resolved

-- an undefined local symbol, the null symbol too, counts as absolute with value 0
abbrev pub local_bound : Place → Bound
local_bound places.Undefined = bounds.Zero
local_bound places.Absolute = bounds.Local
local_bound places.Common = bounds.Local
local_bound (places.Section _) = bounds.Local

-- where a symbol lies: a common symbol counts as a section of its own
abbrev pub class_of_place : RelObject → Place → Class
class_of_place object places.Undefined = Dropped
class_of_place object places.Absolute = Dropped
class_of_place object places.Common = Bss
class_of_place object (places.Section n) = (section_of object n).class

abbrev pub section_size_of : RelObject → Place → ℕ
section_size_of object places.Undefined = 0
section_size_of object places.Absolute = 0
section_size_of object places.Common = 0
section_size_of object (places.Section n) = (section_of object n).size

abbrev pub merged_size : Shape → ℕ → ℕ
merged_size shapes.Defined own = own
merged_size (shapes.Common size _) own = size
merged_size (shapes.Absent _) own = own

-- a local symbol means itself
unfoldable pub local_target : RelObject → ℕ → ℕ → Target
local_target object file symbol =
    let s = symbol_of object symbol in
    record {
      file = file;
      symbol = symbol;
      row = None;
      as_is = s;
      class = class_of_place object s.place;
      section_size = section_size_of object s.place;
      size = s.size;
      bound = local_bound s.place;
    }

-- the symbol that decides on the name of a row
unfoldable pub row_target : Named → ℕ → Target
row_target named row =
    let r = row_of named.table row in
    let object = file_of named.rels r.entry.file in
    let s = symbol_of object r.entry.symbol in
    record {
      file = r.entry.file;
      symbol = r.entry.symbol;
      row = Some row;
      as_is = s;
      class = class_of_place object s.place;
      section_size = section_size_of object s.place;
      size = merged_size r.entry.shape s.size;
      bound = r.bound;
    }

-- what a reference to a symbol of an input means
unfoldable pub target_of : Named → ℕ → ℕ → Target
target_of named file symbol =
    let object = file_of named.rels file in
    if is_local (symbol_of object symbol) then local_target object file symbol
    else row_target named (unwrap_or (index_of named.table (name_of object symbol)) 0)

-- two targets are one symbol
abbrev pub same_target : Target → Target → Bool
same_target t u = t.file == u.file && t.symbol == u.symbol

-- what tells the symbol of a target from others
abbrev pub key_of : Target → ℕ × ℕ
key_of t = (t.file, t.symbol)

abbrev pub is_zero : Bound → Bool
is_zero bounds.Local = false
is_zero bounds.Zero = true
is_zero bounds.Dynamic = false

abbrev pub is_here : Bound → Bool
is_here bounds.Local = true
is_here bounds.Zero = false
is_here bounds.Dynamic = false

abbrev pub is_left_to_load : Bound → Bool
is_left_to_load bounds.Local = false
is_left_to_load bounds.Zero = false
is_left_to_load bounds.Dynamic = true

abbrev pub is_absolute_at : Place → Bool
is_absolute_at places.Undefined = false
is_absolute_at places.Absolute = true
is_absolute_at places.Common = false
is_absolute_at (places.Section _) = false

abbrev pub is_section_at : Place → Bool
is_section_at places.Undefined = false
is_section_at places.Absolute = false
is_section_at places.Common = false
is_section_at (places.Section _) = true

-- a target is a fixed number, is left to load, or is an address of the linked file
abbrev pub is_fixed : Target → Bool
is_fixed t = is_zero t.bound || (is_here t.bound && is_absolute_at t.as_is.place)

abbrev pub is_dynamic : Target → Bool
is_dynamic t = is_left_to_load t.bound

abbrev pub is_address : Target → Bool
is_address t = is_here t.bound && not (is_absolute_at t.as_is.place)

-- the value of a fixed target and an addend, modulo 2 ^ 64
abbrev pub fixed_value : Target → ℤ → ℕ
fixed_value t addend = wrapped (pos (if is_zero t.bound then 0 else t.as_is.value) +ℤ addend)

-- the target stands for places of a split section
abbrev pub is_loose_target : Target → Bool
is_loose_target t = is_section_at t.as_is.place && is_loose t.class t.as_is

-- value and addend name a place of the section, or its end
abbrev pub names_place : Target → ℤ → Bool
names_place t addend = option_map_or (λ offset. nat_le offset t.section_size) (offset_of t.as_is.value addend) false
