-- The symbols whose names no other such symbol may have.
use Rattle.std.specs.Prelude.{ℕ, Bool, true, false, not, ◌&&◌, ◌==◌, List, map, zip, Option}
use Rattle.std.specs.List.{list_any}
use Rattle.std.specs.Str.{bytes_eq}
use Rattle.cap_elf.specs.declared.records.Place.{Place}
use Rattle.cap_elf.specs.declared.records.Place.TheVariants.{Undefined, Absolute, Common, Section}
use Rattle.cap_elf.specs.declared.records.Symbol.{Symbol}
use Rattle.cap_elf.specs.Named.{NamedSymbol}
use Rattle.cap_names.specs.Named.{Named, first_defined, IsOnly}

-- in a section, or absolute
abbrev pub is_defined : Place → Bool
is_defined Undefined = false
is_defined Absolute = true
is_defined Common = false
is_defined (Section n) = true

-- defined, and not local
abbrev pub is_exported : Symbol → Bool
is_exported s = not (s.binding == 0) && is_defined s.place

-- one of the symbols is defined and not local, and has this name
abbrev pub has_exported : List NamedSymbol → List ℕ → Bool
has_exported named name = list_any (λ n. is_exported n.symbol && bytes_eq n.name name) named

-- the names of symbols by their indices, each defined where its symbol is exported
abbrev pub exported_list : List Symbol → List (List ℕ) → List Named
exported_list symbols names = map (λ s. (s.1, is_exported s.0)) (zip symbols names)

-- the least index whose symbol is exported and has this name
abbrev pub first_exported : List Symbol → List (List ℕ) → List ℕ → Option ℕ
first_exported symbols names name = first_defined (exported_list symbols names) name

-- no other exported symbol than the one that is found has this name
abbrev pub IsOnlyExported : List Symbol → List (List ℕ) → List ℕ → Option ℕ → Type 0
IsOnlyExported symbols names name found = IsOnly (exported_list symbols names) name found
