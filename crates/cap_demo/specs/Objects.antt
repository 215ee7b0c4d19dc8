-- The objects: the bytes of each from the generator's state before it.
use Rattle.std.specs.Prelude.{ℕ, zero, suc, ◌+◌, ◌-◌, List, [], ◌∷◌, ◌++◌, length}
use Rattle.std.specs.Int.{next_multiple_of}
use Rattle.cap_demo.specs.declared.names.SymbolName.{SymbolName}
use Rattle.cap_demo.specs.declared.records.Section.{Section}
use Rattle.cap_demo.specs.declared.symbols.Symbol.{Symbol}
use Rattle.cap_demo.specs.Numbers.{after}
use Rattle.cap_demo.specs.Choices.{sizes_of, targets_of}
use Rattle.cap_demo.specs.Symbols.{symbols_of}
use Rattle.cap_demo.specs.Records.{zeros, file_header, section_header}
use Rattle.cap_demo.specs.Sections.{NamedSymbols, code_bytes, data_bytes, capabilities_from, named_symbols, code_section, data_section, rela_section, symbol_section, name_section}

-- what sections hold, and their headers
pub record Body : Type 0 where
  pub contents : List ℕ
  pub headers : List ℕ

-- the header of section 0 holds zeros
unfoldable pub no_sections : Body
no_sections = record { contents = []; headers = zeros 64 }

-- with zeros up to a multiple of 16
unfoldable pub aligned : List ℕ → List ℕ
aligned bytes = bytes ++ zeros (next_multiple_of (length bytes) 16 - length bytes)

-- with one more section, at the next multiple of 16 behind the file's header of 64 bytes
unfoldable pub with_section : Body → Section → List ℕ → Body
with_section body section bytes =
    let before = aligned body.contents in
    record {
      contents = before ++ bytes;
      headers = body.headers ++ section_header section (64 + length before) (length bytes);
    }

-- the sections: code, data, relocations, symbols and names
unfoldable pub filled : List ℕ → List ℕ → NamedSymbols → Body
filled bytes relas named =
    let code = with_section no_sections code_section code_bytes in
    let behind_data = with_section code data_section bytes in
    let behind_relas = with_section behind_data rela_section relas in
    with_section (with_section behind_relas symbol_section named.table) name_section named.names

unfoldable pub body_of : List ℕ → List Symbol → List SymbolName → Body
body_of sizes symbols targets =
    filled (data_bytes sizes) (capabilities_from 0 symbols targets) (named_symbols symbols)

-- the file: its header, what the sections hold, and their headers
unfoldable pub file_of : Body → List ℕ
file_of body =
    let contents = aligned body.contents in
    file_header (64 + length contents) ++ contents ++ body.headers

-- an object of this number, of such sizes and targets
unfoldable pub object_of : ℕ → List ℕ → List SymbolName → List ℕ
object_of number sizes targets = file_of (body_of sizes (symbols_of number sizes targets) targets)

-- the object of this number, from the generator's state before it, and the state behind it
unfoldable pub demo_object : ℕ → ℕ → List ℕ
demo_object state number = object_of number (sizes_of state) (targets_of (after 64 state) number)

unfoldable pub state_after : ℕ → ℕ
state_after state = after 129 state

-- so many objects from this number on
unfoldable pub objects_from : ℕ → ℕ → ℕ → List (List ℕ)
objects_from zero number state = []
objects_from (suc count) number state = demo_object state number ∷ objects_from count (number + 1) (state_after state)

-- the eight objects of a number
unfoldable pub demo_files : ℕ → List (List ℕ)
demo_files number = objects_from 8 0 number
