-- Where the names of a relocatable object's symbols stand: their places among the strings of the file.
use Rattle.std.specs.Prelude.{◌≡◌, ℕ, ◌+◌, ◌-◌, ◌≤◌, List, length, map, All, slice_range}
use Rattle.cap_elf.specs.declared.rel_named.NamePlace.{NamePlace}
use Rattle.cap_elf.specs.declared.sections.Strings.{Strings}
use Rattle.cap_elf.specs.declared.records.Symbol.{Symbol}
use Rattle.cap_elf.specs.Named.{NamedSymbol, named_by}

-- the bytes of a string table
abbrev pub strings_at : List ℕ → Strings → List ℕ
strings_at bytes s = slice_range bytes s.start s.end

-- the name at a place, and the names at places
abbrev pub name_at : List ℕ → NamePlace → List ℕ
name_at strings p = slice_range strings p.offset (p.offset + p.len)

unfoldable pub names_at : List ℕ → List NamePlace → List (List ℕ)
names_at strings places = map (name_at strings) places

-- a name stands at an offset among the strings
pub record IsNameAt (strings : List ℕ) (offset : ℕ) (name : List ℕ) : Type 0 where
  pub inside : offset + length name ≤ length strings
  pub same : slice_range strings offset (offset + length name) ≡ name

-- places lie in strings of this length
abbrev pub AreWithin : ℕ → List NamePlace → Type 0
AreWithin len places = All (λ p. p.offset + p.len ≤ len) places

-- a string table lies in a file of this length, and the places in it
pub record AreNamesInside (file_len : ℕ) (strings : Strings) (places : List NamePlace) : Type 0 where
  pub ordered : strings.start ≤ strings.end
  pub inside : strings.end ≤ file_len
  pub within : AreWithin (strings.end - strings.start) places

-- the strings of an object, and its symbols with their names
pub record RelNamedValue : Type 0 where
  pub strings : List ℕ
  pub named : List NamedSymbol

abbrev pub rel_named_value : List ℕ → List Symbol → List NamePlace → RelNamedValue
rel_named_value strings symbols places = record { strings = strings; named = named_by symbols (names_at strings places) }
