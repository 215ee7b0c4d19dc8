-- The names of symbols, each with whether its symbol is exported.
use Rattle.std.specs.Prelude.{◌≡◌, ℕ, List, length, map}
use Rattle.cap_names.specs.Named.{Named, AreDistinct}
use Rattle.cap_names.specs.declared.hashing.NameHash.{NameHash}
use Rattle.cap_names.specs.declared.hashing.NameHash.TheVariants.{SystemV}
use Rattle.cap_elf.specs.declared.records.Symbol.{Symbol}
use Rattle.cap_elf.specs.Named.{NamedSymbol, named_by}
use Rattle.cap_elf.specs.Exported.{is_exported}

-- a name counts as defined where its symbol is exported
abbrev pub flagged : List NamedSymbol → List Named
flagged named = map (λ n. (n.name, is_exported n.symbol)) named

-- the names alone
abbrev pub texts : List Named → List (List ℕ)
texts names = map (λ p. p.0) names

-- each symbol with the name of its index
abbrev pub flagged_by : List Symbol → List Named → List NamedSymbol
flagged_by symbols names = named_by symbols (texts names)

-- the names are those of the symbols
pub record AreFlagged (symbols : List Symbol) (names : List Named) : Type 0 where
  pub count : length names ≡ length symbols
  pub flags : names ≡ flagged (flagged_by symbols names)

-- the names are those of the symbols, their index goes by the hash of DT_HASH, and no name is exported twice
pub record AreIndexed (symbols : List Symbol) (by : NameHash) (names : List Named) : Type 0 where
  pub flagged : AreFlagged symbols names
  pub rule : by ≡ SystemV
  pub distinct : AreDistinct names
