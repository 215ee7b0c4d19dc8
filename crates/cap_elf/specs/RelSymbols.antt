-- The symbols of a relocatable object (gABI, "Symbol Table").
use Rattle.std.specs.Prelude.{ℕ, ◌≤◌, ◌+◌, ◌*◌, ◌^◌, Bool, true, false, not, ◌&&◌, ◌||◌, ◌==◌, nat_le, nat_lt, List, [], ◌∷◌, ◌++◌, length, map, slice_index_or, if◌then◌else◌, Result, Ok}
use Rattle.std.specs.Int.{is_power_of_two}
use Rattle.cap_base.specs.Lists.{numbers_between}
use Rattle.cap_base.specs.declared.check.Check.TheVariants.{SymbolTable, SymbolCount, SymbolPlace, CommonSymbol, SectionSize, SymbolKindPlace}
use Rattle.cap_base.specs.declared.refusal.Fault.{Fault}
use Rattle.cap_base.specs.Steps.{◌>>=◌, ◌>>◌, refuse, steps}
use Rattle.cap_elf.specs.declared.decode.SymbolEntry.{SymbolEntry}
use Rattle.cap_elf.specs.declared.decode.Table.{Table}
use Rattle.cap_elf.specs.declared.records.Place.{Place}
use Rattle.cap_elf.specs.declared.records.Place.TheVariants.{Undefined, Absolute, Common, Section as InSection}
use Rattle.cap_elf.specs.declared.records.Section.{Section}
use Rattle.cap_elf.specs.declared.records.Symbol.{Symbol}
use Rattle.cap_elf.specs.declared.rel_symbols.Symtab.{Symtab}
use Rattle.cap_elf.specs.Numbers.{SHT_SYMTAB}
use Rattle.cap_elf.specs.declared.sections.SectionHeader.{SectionHeader}
use Rattle.cap_elf.specs.Named.{NamedSymbol}
use Rattle.cap_elf.specs.NamePlaces.{strings_at}
use Rattle.cap_elf.specs.Classes.{is_kept, is_code, is_array}
use Rattle.cap_elf.specs.Records.{symbol_entry_at}
use Rattle.cap_elf.specs.RelObject.{no_section}
use Rattle.cap_elf.specs.Sections.{header_at, strings_in, records_in}
use Rattle.cap_elf.specs.Symbols.{checked_name, null_named}

-- where the symbols stand, and the strings of their names
pub record SymtabView : Type 0 where
  pub is_there : Bool
  pub place : Table
  pub strings : List ℕ

-- that, as contracts see it in a file
abbrev pub symtab_view : List ℕ → Symtab → SymtabView
symtab_view bytes t = record { is_there = t.is_there; place = t.place; strings = strings_at bytes t.strings }

-- both lie in a file of this length
pub record IsSymtabInside (file_len : ℕ) (t : Symtab) : Type 0 where
  pub symbols : t.place.at + 24 * t.place.count ≤ file_len
  pub ordered : t.strings.start ≤ t.strings.end
  pub inside : t.strings.end ≤ file_len

-- a file without a symbol table has the null symbol alone
abbrev pub no_symtab : SymtabView
no_symtab = record { is_there = false; place = record { at = 0; count = 1 }; strings = [] }

-- the symbol table so far, and that of one more section: "an object file may have only one section of each type". Its
-- sh_link is the section of the strings
unfoldable pub symtab_step : List ℕ → List SectionHeader → SymtabView → SectionHeader → Result SymtabView Fault
symtab_step bytes headers found h = if not (h.kind == SHT_SYMTAB) then Ok found else do
  refuse found.is_there SymbolTable h.at
  place ← records_in (length bytes) h SymbolTable
  strings ← strings_in bytes (header_at headers h.link) SymbolTable h.at
  Ok (record { is_there = true; place = place; strings = strings })

-- the symbol table (SHT_SYMTAB)
abbrev pub symtab_in : List ℕ → List SectionHeader → Result SymtabView Fault
symtab_in bytes headers = steps (symtab_step bytes headers) no_symtab headers

-- the symbol table, with so many symbols at most
unfoldable pub symtab_of : List ℕ → List SectionHeader → Result SymtabView Fault
symtab_of bytes headers = do
  t ← symtab_in bytes headers
  refuse (nat_lt (2 ^ 20) t.place.count) SymbolCount 0
  Ok t

-- SHN_COMMON, which stands in relocatable objects alone
abbrev pub with_common : Place → Place
with_common (InSection n) = if n == 0xfff2 then Common else InSection n
with_common place = place

-- Elf64_Sym in a relocatable object
unfoldable pub rel_symbol_at : List ℕ → ℕ → SymbolEntry
rel_symbol_at bytes at =
    let e = symbol_entry_at bytes at in
    record e { symbol = record e.symbol { place = with_common e.symbol.place } }

-- the symbols from index 1 on
abbrev pub rel_symbols_at : List ℕ → Table → List SymbolEntry
rel_symbols_at bytes place = map (λ i. rel_symbol_at bytes (place.at + 24 * i)) (numbers_between 1 place.count)

-- the symbol ends behind a section that is kept
unfoldable pub is_past : Section → Symbol → Bool
is_past home s = is_kept home.class && nat_lt home.size (s.value + s.size)

-- a function (STT_FUNC) in no code, data (STT_OBJECT) in code, data or a size in an array of calls, or a symbol that isn't
-- local in a section that isn't kept
unfoldable pub is_misplaced : Section → Symbol → Bool
is_misplaced home s =
    (is_kept home.class && s.kind == 2 && not (is_code home.class))
    || (is_code home.class && s.kind == 1)
    || (is_array home.class && (s.kind == 1 || not (s.size == 0)))
    || (not (is_kept home.class) && not (s.binding == 0))

-- a common symbol that isn't global, or whose value is no alignment: "st_value holds alignment constraints for a symbol
-- whose section index is SHN_COMMON"
unfoldable pub common_fails : Symbol → Bool
common_fails s = not (s.binding == 1) || not (is_power_of_two s.value) || nat_lt 65536 s.value

-- the checks of a common symbol
unfoldable pub common_passes : Symbol → Result (Unit {0}) Fault
common_passes s = do
  refuse (common_fails s) CommonSymbol s.at
  refuse (nat_lt (2 ^ 26) s.size) SectionSize 0

-- the checks of a symbol of the section of this index
unfoldable pub section_passes : List Section → Symbol → ℕ → Result (Unit {0}) Fault
section_passes sections s n = do
  refuse (nat_le (length sections) n) SymbolPlace s.at
  refuse (is_past (slice_index_or sections n no_section) s) SymbolPlace s.at
  refuse (is_misplaced (slice_index_or sections n no_section) s) SymbolKindPlace s.at

-- the checks of where a symbol is
abbrev pub place_passes : List Section → Symbol → Place → Result (Unit {0}) Fault
place_passes sections s Undefined = Ok tt
place_passes sections s Absolute = Ok tt
place_passes sections s Common = common_passes s
place_passes sections s (InSection n) = section_passes sections s n

-- the symbols so far, and one more
unfoldable pub rel_symbol_step : List ℕ → List Section → List NamedSymbol → SymbolEntry → Result (List NamedSymbol) Fault
rel_symbol_step strings sections named e = do
  name ← checked_name strings e
  place_passes sections e.symbol e.symbol.place
  Ok (named ++ record { symbol = e.symbol; name = name } ∷ [])

-- the null symbol, and one symbol for each entry
abbrev pub rel_named_of : List ℕ → List Section → ℕ → List SymbolEntry → Result (List NamedSymbol) Fault
rel_named_of strings sections at entries = steps (rel_symbol_step strings sections) (null_named at ∷ []) entries

-- the symbols of a symbol table
abbrev pub rel_named_in : List ℕ → List Section → SymtabView → Result (List NamedSymbol) Fault
rel_named_in bytes sections t = rel_named_of t.strings sections t.place.at (rel_symbols_at bytes t.place)
