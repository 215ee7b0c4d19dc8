-- The symbols of an object.
use Rattle.std.specs.Prelude.{ℕ, ◌+◌, nat_lt, if◌then◌else◌, List, [], ◌∷◌, ◌++◌, length, fold}
use Rattle.std.specs.List.{position_or_len}
use Rattle.cap_demo.specs.declared.names.SymbolName.{SymbolName}
use Rattle.cap_demo.specs.declared.names.SymbolName.TheVariants.{Function, Table, Datum}
use Rattle.cap_demo.specs.declared.symbols.Symbol.{Symbol}
use Rattle.cap_demo.specs.Names.{same_name}

-- a function (STT_FUNC) in the code, section 1
unfoldable pub function_symbol : ℕ → Symbol
function_symbol number = record { name = Function number; kind = 2; section = 1; value = 0; size = 4 }

-- data (STT_OBJECT) in section 2: the table, and behind it the data without gaps
unfoldable pub table_symbol : ℕ → Symbol
table_symbol number = record { name = Table number; kind = 1; section = 2; value = 0; size = 1040 }

unfoldable pub datum_symbol : ℕ → ℕ → ℕ → ℕ → Symbol
datum_symbol number index at size = record { name = Datum number index; kind = 1; section = 2; value = at; size = size }

unfoldable pub data_symbols : ℕ → ℕ → ℕ → List ℕ → List Symbol
data_symbols number index at [] = []
data_symbols number index at (size ∷ sizes) =
    datum_symbol number index at size ∷ data_symbols number (index + 1) (at + size) sizes

unfoldable pub own_symbols : ℕ → List ℕ → List Symbol
own_symbols number sizes = function_symbol number ∷ table_symbol number ∷ data_symbols number 0 1040 sizes

-- a symbol that another object defines (SHN_UNDEF, STT_NOTYPE)
unfoldable pub undefined_symbol : SymbolName → Symbol
undefined_symbol name = record { name = name; kind = 0; section = 0; value = 0; size = 0 }

-- where the first symbol of this name stands; behind all of them where there is none
unfoldable pub place_of : List Symbol → SymbolName → ℕ
place_of symbols name = position_or_len (λ s. same_name s.name name) symbols

-- the symbols with a target: undefined, where none of them has its name
unfoldable pub with_target : List Symbol → SymbolName → List Symbol
with_target symbols target =
    if nat_lt (place_of symbols target) (length symbols) then symbols else symbols ++ undefined_symbol target ∷ []

-- all symbols: its own, then targets that it doesn't define, in the order of their first use
unfoldable pub symbols_of : ℕ → List ℕ → List SymbolName → List Symbol
symbols_of number sizes targets = fold with_target (own_symbols number sizes) targets
