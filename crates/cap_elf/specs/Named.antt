-- Symbols with their names.
use Rattle.std.specs.Prelude.{ℕ, List, [], ◌∷◌}
use Rattle.cap_elf.specs.declared.records.Symbol.{Symbol}

-- a symbol and its name
pub record NamedSymbol : Type 0 where
  pub symbol : Symbol
  pub name : List ℕ

-- each symbol with the name of its index
unfoldable pub named_by : List Symbol → List (List ℕ) → List NamedSymbol
named_by [] names = []
named_by (s ∷ symbols) [] = []
named_by (s ∷ symbols) (n ∷ names) = record { symbol = s; name = n } ∷ named_by symbols names
