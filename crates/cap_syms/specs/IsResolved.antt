-- What holds of each table of names that was resolved.
use Rattle.std.specs.Prelude.{◌≡◌, ◌≢◌, ℕ, ◌^◌, ◌*◌, ◌<◌, ◌≤◌, true, List, length, Some, All, AllPairs, IsTrue}
use Rattle.std.specs.Int.{is_power_of_two}
use Rattle.cap_elf.specs.declared.records.Place.{Place}
use Rattle.cap_elf.specs.declared.records.Place.TheVariants as places
use Rattle.cap_elf.specs.RelObject.{RelObject, file_of, symbol_of, name_of}
use Rattle.cap_elf.specs.IsRead.{IsShort}
use Rattle.cap_syms.specs.declared.entries.Shape.{Shape}
use Rattle.cap_syms.specs.declared.entries.Shape.TheVariants as shapes
use Rattle.cap_syms.specs.Occurrences.{is_definition_at, is_common_at}
use Rattle.cap_syms.specs.Resolved.{Resolved, index_of}

-- a decision by a definition, a common symbol or a reference; the merged size and alignment are those of common symbols
abbrev pub IsShapeOf : Place → Shape → Type 0
IsShapeOf place shapes.Defined = is_definition_at place ≡ true
IsShapeOf place (shapes.Common size align) =
    (is_common_at place ≡ true) × (size ≤ 2 ^ 26) × IsTrue (is_power_of_two align) × (align ≤ 65536)
IsShapeOf place (shapes.Absent weak) = place ≡ places.Undefined

-- a row: the deciding occurrence is a symbol of an input that isn't local and has the name
pub record IsRow (rels : List RelObject) (r : Resolved) : Type 0 where
  pub file : r.entry.file < length rels
  pub symbol : r.entry.symbol < length (file_of rels r.entry.file).symbols
  pub named : name_of (file_of rels r.entry.file) r.entry.symbol ≡ r.name
  pub outside : (symbol_of (file_of rels r.entry.file) r.entry.symbol).binding ≢ 0
  pub shape : IsShapeOf (symbol_of (file_of rels r.entry.file) r.entry.symbol).place r.entry.shape
  pub visibility : r.entry.visibility < 4
  pub short : IsShort r.name
  pub some : 0 < length r.name

pub record IsResolved (rels : List RelObject) (table : List Resolved) : Type 0 where
  pub few : length table ≤ length rels * 2 ^ 20
  pub rows_are : All (IsRow rels) table
  pub distinct : AllPairs (λ a b. a.name ≢ b.name) table
  -- each symbol that isn't local has a row
  pub complete : (file symbol : ℕ) → file < length rels → symbol < length (file_of rels file).symbols → (symbol_of (file_of rels file) symbol).binding ≢ 0 → (row : ℕ) × (index_of table (name_of (file_of rels file) symbol) ≡ Some row) × (row < length table)
