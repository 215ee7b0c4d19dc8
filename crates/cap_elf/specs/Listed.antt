-- The symbols of a shared object up to the first that fails a check of its own, whatever names stand twice among them.
use Rattle.std.specs.Prelude.{ℕ, List, [], ◌∷◌, ◌++◌, slice_index_or, Option, Some, None, Result, Ok, Err}
use Rattle.cap_base.specs.declared.check.Check.TheVariants.{DuplicateSymbol}
use Rattle.cap_base.specs.declared.refusal.Fault.{Fault}
use Rattle.cap_base.specs.Steps.{fault}
use Rattle.cap_elf.specs.declared.records.Symbol.{Symbol}
use Rattle.cap_elf.specs.declared.decode.SymbolEntry.{SymbolEntry}
use Rattle.cap_elf.specs.Named.{NamedSymbol}
use Rattle.cap_elf.specs.Records.{null_symbol}
use Rattle.cap_elf.specs.Symbols.{checked_name}

-- symbols with their names, and the fault of the next one
abbrev pub Listed : Type 0
Listed = List NamedSymbol × Option Fault

-- the symbols so far, and those from an entry on, whose name or fault is given
abbrev pub listed_more : List NamedSymbol → SymbolEntry → Result (List ℕ) Fault → (List NamedSymbol → Listed) → Listed
listed_more named e (Ok name) rest = rest (named ++ record { symbol = e.symbol; name = name } ∷ [])
listed_more named e (Err f) rest = (named, Some f)

-- the symbols so far, and those of the entries
unfoldable pub listed_from : List ℕ → List NamedSymbol → List SymbolEntry → Listed
listed_from strings named [] = (named, None)
listed_from strings named (e ∷ es) = listed_more named e (checked_name strings e) (λ more. listed_from strings more es)

-- the second definition of these symbols, or else the fault of the next one
abbrev pub refuse_first : List Symbol → Option ℕ → Option Fault → Result (Unit {0}) Fault
refuse_first symbols (Some i) own = Err (fault DuplicateSymbol (slice_index_or symbols i (null_symbol 0)).at)
refuse_first symbols None (Some f) = Err f
refuse_first symbols None None = Ok tt
