-- The sections of an object: what each holds, and its header.
use Rattle.std.specs.Prelude.{ℕ, ◌+◌, List, [], ◌∷◌, ◌++◌, length, take, fold, flat_map, sum, codes}
use Rattle.cap_demo.specs.declared.names.SymbolName.{SymbolName}
use Rattle.cap_demo.specs.declared.records.Section.{Section}
use Rattle.cap_demo.specs.declared.symbols.Symbol.{Symbol}
use Rattle.cap_demo.specs.Names.{name_text}
use Rattle.cap_demo.specs.Records.{field_bytes, zeros, symbol_bytes, capability_bytes}
use Rattle.cap_demo.specs.Symbols.{place_of}

-- one instruction that does nothing
unfoldable pub code_bytes : List ℕ
code_bytes = field_bytes 4 0x00000013

-- the table, of 16 bytes a target, and the data
unfoldable pub data_bytes : List ℕ → List ℕ
data_bytes sizes = zeros (1040 + sum sizes)

-- a capability in the table for each target; symbol 0 of a file is the null symbol
unfoldable pub capabilities_from : ℕ → List Symbol → List SymbolName → List ℕ
capabilities_from at symbols [] = []
capabilities_from at symbols (target ∷ targets) =
    capability_bytes at (1 + place_of symbols target) ++ capabilities_from (at + 16) symbols targets

-- the names of the sections, each ended by a zero byte, behind the empty name
unfoldable pub section_names : List (List ℕ)
section_names = codes ".text" ∷ codes ".data" ∷ codes ".rela.data" ∷ codes ".symtab" ∷ codes ".strtab" ∷ []

unfoldable pub ended : List ℕ → List ℕ
ended name = name ++ 0 ∷ []

unfoldable pub names_before : ℕ → List ℕ
names_before k = 0 ∷ flat_map ended (take k section_names)

-- the table of symbols, and the names of sections and symbols
pub record NamedSymbols : Type 0 where
  pub table : List ℕ
  pub names : List ℕ

-- with one more symbol
unfoldable pub with_symbol : NamedSymbols → Symbol → NamedSymbols
with_symbol before s = record {
  table = before.table ++ symbol_bytes (length before.names) s;
  names = before.names ++ ended (name_text s.name);
}

-- the null symbol, and then the symbols
unfoldable pub no_symbols : NamedSymbols
no_symbols = record { table = zeros 24; names = names_before 5 }

unfoldable pub named_symbols : List Symbol → NamedSymbols
named_symbols symbols = fold with_symbol no_symbols symbols

-- code (SHT_PROGBITS, SHF_ALLOC with SHF_EXECINSTR)
unfoldable pub code_section : Section
code_section = record { name = length (names_before 0); kind = 1; flags = 6; link = 0; info = 0; align = 4; entry = 0 }

-- data (SHT_PROGBITS, SHF_ALLOC with SHF_WRITE)
unfoldable pub data_section : Section
data_section = record { name = length (names_before 1); kind = 1; flags = 3; link = 0; info = 0; align = 16; entry = 0 }

-- relocations (SHT_RELA), with the symbols of section 4, of section 2
unfoldable pub rela_section : Section
rela_section = record { name = length (names_before 2); kind = 4; flags = 0; link = 4; info = 2; align = 8; entry = 24 }

-- symbols (SHT_SYMTAB), whose names stand in section 5, and of which the first isn't local
unfoldable pub symbol_section : Section
symbol_section = record { name = length (names_before 3); kind = 2; flags = 0; link = 5; info = 1; align = 8; entry = 24 }

-- names (SHT_STRTAB)
unfoldable pub name_section : Section
name_section = record { name = length (names_before 4); kind = 3; flags = 0; link = 0; info = 0; align = 1; entry = 0 }
