-- The symbols of a shared object (gABI, "Symbol Table").
use Rattle.std.specs.Prelude.{ℕ, ◌+◌, ◌-◌, Bool, false, not, ◌&&◌, ◌||◌, ◌==◌, nat_le, nat_lt, List, [], ◌∷◌, ◌++◌, length, ok_or, Result, Ok}
use Rattle.cap_base.specs.declared.check.Check.TheVariants.{SymbolName, NameLength, SymbolType, SymbolBinding, SymbolSection, DuplicateSymbol}
use Rattle.cap_base.specs.declared.refusal.Fault.{Fault}
use Rattle.cap_elf.specs.declared.records.Place.{Place}
use Rattle.cap_elf.specs.declared.records.Place.TheVariants.{Undefined, Absolute, Common, Section}
use Rattle.cap_elf.specs.declared.decode.SymbolEntry.{SymbolEntry}
use Rattle.cap_elf.specs.declared.decode.Table.{Table}
use Rattle.cap_elf.specs.Named.{NamedSymbol}
use Rattle.cap_elf.specs.Records.{table, symbol_entry_at, null_symbol}
use Rattle.cap_base.specs.Text.{is_plain}
use Rattle.cap_elf.specs.Names.{name_of}
use Rattle.cap_elf.specs.Exported.{is_exported, has_exported}
use Rattle.cap_base.specs.Steps.{◌>>=◌, ◌>>◌, refuse, fault, steps}

-- a section index from SHN_LORESERVE on that is no section's, SHN_ABS aside
abbrev pub is_reserved : Place → Bool
is_reserved Undefined = false
is_reserved Absolute = false
is_reserved Common = false
is_reserved (Section n) = nat_le 0xff00 n

-- the name of a symbol that passes each check of its own
unfoldable pub checked_name : List ℕ → SymbolEntry → Result (List ℕ) Fault
checked_name strings e = do
  name ← ok_or (name_of strings e.name) (fault SymbolName e.symbol.at)
  refuse (not (is_plain name) || (length name == 0 && not (e.symbol.binding == 0))) SymbolName e.symbol.at
  refuse (nat_lt 255 (length name)) NameLength 0
  refuse (nat_lt 5 e.symbol.kind) SymbolType e.symbol.at
  refuse (nat_lt 2 e.symbol.binding) SymbolBinding e.symbol.at
  refuse (is_reserved e.symbol.place) SymbolSection e.symbol.at
  Ok name

-- the symbols so far, and one more
unfoldable pub symbol_step : List ℕ → List NamedSymbol → SymbolEntry → Result (List NamedSymbol) Fault
symbol_step strings named e = do
  name ← checked_name strings e
  refuse (is_exported e.symbol && has_exported named name) DuplicateSymbol e.symbol.at
  Ok (named ++ record { symbol = e.symbol; name = name } ∷ [])

-- the symbol of index 0 has the empty name
abbrev pub null_named : ℕ → NamedSymbol
null_named at = record { symbol = null_symbol at; name = [] }

-- the null symbol, and one symbol for each entry
abbrev pub named_of : List ℕ → ℕ → List SymbolEntry → Result (List NamedSymbol) Fault
named_of strings at entries = steps (symbol_step strings) (null_named at ∷ []) entries

-- the symbols of a symbol table
abbrev pub named_in : List ℕ → List ℕ → Table → Result (List NamedSymbol) Fault
named_in bytes strings place = named_of strings place.at (table (symbol_entry_at bytes) (place.at + 24) 24 (place.count - 1))
