-- The symbols that other objects may choose (System V gABI, symbol binding and visibility), by their names.
use Rattle.std.specs.Prelude.{ℕ, Bool, ◌&&◌, ◌||◌, ◌==◌, List, [], ◌∷◌, map, filter, bytes_eq, zip, Option, Some, None}
use Rattle.std.specs.List.{enumerate_from}
use Rattle.cap_elf.specs.declared.records.Symbol.{Symbol}
use Rattle.cap_elf.specs.Exported.{is_defined}
use Rattle.cap_elf.specs.DynView.{DynRecords}
use Rattle.cap_chain.specs.Adopted.{ChainTable, table_of}
use Rattle.cap_names.specs.Named.{Named}
use Rattle.cap_scope.specs.declared.choice.Candidate.{Candidate}

-- STB_GLOBAL
abbrev pub is_global : Symbol → Bool
is_global s = s.binding == 1

-- the symbol is defined or absolute, GLOBAL or WEAK (1, 2), and of visibility DEFAULT or PROTECTED (0, 3)
abbrev pub can_be_chosen : Symbol → Bool
can_be_chosen s = is_defined s.place && (s.binding == 1 || s.binding == 2) && (s.visibility == 0 || s.visibility == 3)

-- a symbol with its name
abbrev pub NamedSymbol : Type 0
NamedSymbol = Symbol × List ℕ

-- the name of a symbol, which counts as defined exactly where the symbol can be chosen
abbrev pub defined_name : NamedSymbol → Named
defined_name s = (s.1, can_be_chosen s.0)

-- the hash table of an object, with the names of its symbols
abbrev pub hash_table : DynRecords → ChainTable
hash_table object = table_of object.hash_words (map defined_name (zip object.symbols object.names))

-- the symbol can be chosen and has this name
abbrev pub is_named : List ℕ → NamedSymbol → Bool
is_named name s = can_be_chosen s.0 && bytes_eq s.1 name

-- the symbol of this index in this object, as a definition
abbrev pub candidate : ℕ → ℕ × NamedSymbol → Candidate
candidate i s = record { hit = record { object = i; symbol = s.0 }; is_strong = is_global s.1.0 }

-- the definitions of a name in the object of this number
abbrev pub candidates_in : DynRecords → ℕ → List ℕ → List Candidate
candidates_in object i name =
    map (λ s. candidate i s) (filter (λ s. is_named name s.1) (enumerate_from 0 (zip object.symbols object.names)))

abbrev pub list_of : Option Candidate → List Candidate
list_of None = []
list_of (Some c) = c ∷ []
