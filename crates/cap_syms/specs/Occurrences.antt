-- Where names occur: the symbols of the relocatable inputs that are not local, in order of files and symbols.
use Rattle.std.specs.Prelude.{ℕ, Bool, true, false, not, ◌==◌, List, map, filter}
use Rattle.std.specs.List.{enumerate_from, flat_map}
use Rattle.std.specs.Str.{bytes_eq}
use Rattle.cap_elf.specs.declared.records.Symbol.{Symbol}
use Rattle.cap_elf.specs.declared.records.Place.{Place}
use Rattle.cap_elf.specs.declared.records.Place.TheVariants as places
use Rattle.cap_elf.specs.RelObject.{RelObject, name_of}
use Rattle.cap_syms.specs.Distinct.{distinct}

-- an occurrence of a name: the symbol of this number in the input of this place
pub record Occurrence : Type 0 where
  pub name : List ℕ
  pub file : ℕ
  pub symbol : ℕ
  pub as_is : Symbol

-- STB_LOCAL, STB_GLOBAL, STB_WEAK
abbrev pub is_local : Symbol → Bool
is_local s = s.binding == 0

abbrev pub is_global : Symbol → Bool
is_global s = s.binding == 1

abbrev pub is_weak : Symbol → Bool
is_weak s = s.binding == 2

-- a definition is in a section or absolute
abbrev pub is_definition_at : Place → Bool
is_definition_at places.Undefined = false
is_definition_at places.Absolute = true
is_definition_at places.Common = false
is_definition_at (places.Section _) = true

abbrev pub is_common_at : Place → Bool
is_common_at places.Undefined = false
is_common_at places.Absolute = false
is_common_at places.Common = true
is_common_at (places.Section _) = false

-- those of one input
abbrev pub occurrences_in : ℕ × RelObject → List Occurrence
occurrences_in p =
    filter (λ o. not (is_local o.as_is)) (map (λ s. record { name = name_of p.1 s.0; file = p.0; symbol = s.0; as_is = s.1 }) (enumerate_from 0 p.1.symbols))

-- those of all inputs
abbrev pub occurrences : List RelObject → List Occurrence
occurrences rels = flat_map occurrences_in (enumerate_from 0 rels)

-- each name at its first appearance
abbrev pub names_in_order : List RelObject → List (List ℕ)
names_in_order rels = distinct bytes_eq (map (λ o. o.name) (occurrences rels))

-- the occurrences of one name
abbrev pub occurrences_of : List Occurrence → List ℕ → List Occurrence
occurrences_of all name = filter (λ o. bytes_eq o.name name) all
