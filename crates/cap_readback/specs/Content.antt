-- What a linker plans of a file, and what is read of it.
use Rattle.std.specs.Prelude.{◌≡◌, ℕ, ◌+◌, ◌*◌, ◌≤◌, ◌<◌, Bool, true, false, ◌==◌, List, [], ◌∷◌, ◌++◌, length, FitsSigned, bytes_eq}
use Rattle.std.specs.Int.{cast_unsigned, w64}
use Rattle.std.specs.List.{list_any}
use Rattle.cap_elf.specs.declared.records.Symbol.{Symbol}
use Rattle.cap_elf.specs.declared.decode.SymbolEntry.{SymbolEntry}
use Rattle.cap_elf.specs.declared.records.DynReloc.{DynReloc}
use Rattle.cap_elf.specs.declared.records.CapReloc.{CapReloc}
use Rattle.cap_elf.specs.Named.{NamedSymbol}
use Rattle.cap_elf.specs.Records.{place_of}
use Rattle.cap_elf.specs.Names.{is_file_name}
use Rattle.cap_base.specs.Text.{is_plain as is_printable}
use Rattle.cap_elf.specs.Symbols.{is_reserved}
use Rattle.cap_readback.specs.Stands.{Stands, fields, AreSmall}
use Rattle.cap_readback.specs.Written.{Field}

-- names, each followed by a zero byte
abbrev pub terminated : List (List ℕ) → List ℕ
terminated [] = []
terminated (name ∷ names) = (name ++ 0 ∷ []) ++ terminated names

-- a name and where it begins
abbrev pub Name : Type 0
Name = ℕ × List ℕ

abbrev pub names_from : ℕ → List (List ℕ) → List Name
names_from at [] = []
names_from at (name ∷ names) = (at, name) ∷ names_from (at + length name + 1) names

-- the name stands there, up to a zero byte
abbrev pub Ends : List ℕ → Name → Type 0
Ends strings n = Stands strings n.0 (n.1 ++ 0 ∷ [])

-- a name of a library: it has no zero byte, and is short
pub record IsLibrary (strings : List ℕ) (n : Name) : Type 0 where
  pub stands : Ends strings n
  pub no_zero : list_any (λ b. b == 0) n.1 ≡ false
  pub short : length n.1 ≤ 255

-- the name is one that a reader takes
abbrev pub is_taken : Name → Bool
is_taken n = is_file_name n.1

-- a symbol of the linked file
pub record DynSymbol : Type 0 where
  pub binding : ℕ
  pub kind : ℕ
  pub visibility : ℕ
  pub section : ℕ
  pub value : ℕ
  pub size : ℕ

-- a symbol, and its name
pub record Planned : Type 0 where
  pub name : Name
  pub symbol : DynSymbol

abbrev pub symbol_fields : Planned → List Field
symbol_fields p =
    let s = p.symbol in
    (4, p.name.0) ∷ (1, s.binding * 16 + s.kind) ∷ (1, s.visibility) ∷ (2, s.section) ∷ (8, s.value) ∷ (8, s.size) ∷ []

abbrev pub symbol_bytes : Planned → List ℕ
symbol_bytes p = fields (symbol_fields p)

abbrev pub symbol_of : ℕ → DynSymbol → Symbol
symbol_of at s = record {
  binding = s.binding;
  kind = s.kind;
  visibility = s.visibility;
  place = place_of s.section;
  value = s.value;
  size = s.size;
  at = at;
}

abbrev pub entry_of : ℕ → Planned → SymbolEntry
entry_of at p = record { name = p.name.0; symbol = symbol_of at p.symbol }

abbrev pub symbol_read : ℕ → Planned → Symbol
symbol_read at p = symbol_of at p.symbol

abbrev pub named_of : ℕ → Planned → NamedSymbol
named_of at p = record { symbol = symbol_of at p.symbol; name = p.name.1 }

-- a symbol that a reader takes
pub record IsGood (strings : List ℕ) (p : Planned) : Type 0 where
  pub small : AreSmall (symbol_fields p)
  pub stands : Ends strings p.name
  pub printable : is_printable p.name.1 ≡ true
  pub some : 0 < length p.name.1
  pub short : length p.name.1 ≤ 255
  pub kind : p.symbol.kind ≤ 5
  pub binding : p.symbol.binding ≤ 2
  pub visibility : p.symbol.visibility < 4
  pub section : is_reserved (place_of p.symbol.section) ≡ false

-- no name stands twice
abbrev pub AreNew : List Planned → List Planned → Type 0
AreNew before [] = Unit {0}
AreNew before (p ∷ ps) =
    (list_any (λ q. bytes_eq q.name.1 p.name.1) before ≡ false) × AreNew (before ++ p ∷ []) ps

abbrev pub reloc_fields : DynReloc → List Field
reloc_fields r = (8, r.slot) ∷ (4, r.kind) ∷ (4, r.symbol) ∷ (8, cast_unsigned w64 r.addend) ∷ []

abbrev pub reloc_bytes : DynReloc → List ℕ
reloc_bytes r = fields (reloc_fields r)

abbrev pub reloc_read : ℕ → DynReloc → DynReloc
reloc_read at r = record r { at = at }

pub record IsGoodReloc (symbols : ℕ) (r : DynReloc) : Type 0 where
  pub small : AreSmall (reloc_fields r)
  pub signed : FitsSigned w64 r.addend
  pub symbol : r.symbol < symbols

abbrev pub cap_fields : CapReloc → List Field
cap_fields c = (8, c.location) ∷ (8, c.object) ∷ (8, c.offset) ∷ (8, c.size) ∷ (8, c.permissions) ∷ []

abbrev pub cap_bytes : CapReloc → List ℕ
cap_bytes c = fields (cap_fields c)

abbrev pub cap_read : ℕ → CapReloc → CapReloc
cap_read at c = record c { at = at }

abbrev pub word_fields : ℕ → List Field
word_fields w = (4, w) ∷ []

abbrev pub word_bytes : ℕ → List ℕ
word_bytes w = fields (word_fields w)
