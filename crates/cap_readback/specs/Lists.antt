-- The lists of a linked file as they are planned, written, and read back.
use Rattle.std.specs.Prelude.{◌≡◌, ℕ, ◌+◌, ◌*◌, Bool, true, false, List, [], ◌∷◌, ◌++◌, map, Option, Some, None}
use Rattle.std.specs.List.{enumerate_from}
use Rattle.cap_elf.specs.declared.decode.DynEntry.{DynEntry}
use Rattle.cap_elf.specs.Dynamic.{value_of}
use Rattle.cap_elf.specs.Numbers.{DT_HASH, DT_STRTAB, DT_SYMTAB, DT_STRSZ, DT_SYMENT, DT_SYMBOLIC, DT_RELA, DT_RELASZ, DT_RELAENT, DT_PLTRELSZ, DT_PLTREL, DT_JMPREL, DT_INIT_ARRAY, DT_FINI_ARRAY, DT_INIT_ARRAYSZ, DT_FINI_ARRAYSZ, DT_CAP_RELOCS, DT_CAP_RELOCSZ}
use Rattle.cap_readback.specs.Stands.{fields}
use Rattle.cap_readback.specs.Written.{Field}

-- a list as it is read back, each record with its place: the first is the n-th of the table
abbrev pub placed : {X Y : Type 0} → (ℕ → X → Y) → ℕ → ℕ → ℕ → List X → List Y
placed f at size n xs = map (λ p. f (at + size * p.0) p.1) (enumerate_from n xs)

-- an entry of the dynamic table: its tag and its value
abbrev pub Entry : Type 0
Entry = ℕ × ℕ

abbrev pub entry_fields : Entry → List Field
entry_fields e = (8, e.0) ∷ (8, e.1) ∷ []

abbrev pub entry_bytes : Entry → List ℕ
entry_bytes e = fields (entry_fields e)

abbrev pub entry_read : ℕ → Entry → DynEntry
entry_read at e = record { tag = e.0; value = e.1; at = at }

-- what the entries say
pub record Values : Type 0 where
  pub hash : ℕ
  pub strings : ℕ
  pub symbols : ℕ
  pub strings_size : ℕ
  pub relas : ℕ
  pub relas_size : ℕ
  pub caps : ℕ
  pub caps_size : ℕ
  pub init : ℕ
  pub init_size : ℕ
  pub fini : ℕ
  pub fini_size : ℕ

abbrev pub list_if : {X : Type 0} → Bool → List X → List X
list_if true xs = xs
list_if false xs = []

abbrev pub option_if : Bool → ℕ → Option ℕ
option_if true x = Some x
option_if false x = None

abbrev pub own_entries : Option ℕ → List Entry
own_entries None = []
own_entries (Some name) = (14, name) ∷ []

abbrev pub needed_entries : List ℕ → List Entry
needed_entries names = map (λ name. (1, name)) names

abbrev pub table_entries : Bool → Bool → Bool → Bool → Values → List Entry
table_entries relas caps init fini v =
    (4, v.hash) ∷ (5, v.strings) ∷ (6, v.symbols) ∷ (10, v.strings_size) ∷ (11, 24) ∷ (list_if relas ((7, v.relas) ∷ (8, v.relas_size) ∷ (9, 24) ∷ [])
    ++ (list_if caps ((0x7000c000, v.caps) ∷ (0x7000c001, v.caps_size) ∷ [])
    ++ (list_if init ((25, v.init) ∷ (27, v.init_size) ∷ [])
    ++ list_if fini ((26, v.fini) ∷ (28, v.fini_size) ∷ []))))

-- all entries before the last one, which has tag 0
abbrev pub entries_of : List ℕ → Option ℕ → Bool → Bool → Bool → Bool → Values → List Entry
entries_of needed own relas caps init fini v =
    needed_entries needed ++ (own_entries own ++ table_entries relas caps init fini v)

-- what the entries of these tags say
pub record Tell (used : List DynEntry) (relas caps init fini : Bool) (v : Values) : Type 0 where
  pub hash : value_of used DT_HASH ≡ Some v.hash
  pub strings : value_of used DT_STRTAB ≡ Some v.strings
  pub symbols : value_of used DT_SYMTAB ≡ Some v.symbols
  pub strings_size : value_of used DT_STRSZ ≡ Some v.strings_size
  pub symbol_size : value_of used DT_SYMENT ≡ Some 24
  pub symbolic : value_of used DT_SYMBOLIC ≡ None
  pub relas_at : value_of used DT_RELA ≡ option_if relas v.relas
  pub relas_size : value_of used DT_RELASZ ≡ option_if relas v.relas_size
  pub rela_size : value_of used DT_RELAENT ≡ option_if relas 24
  pub jumps_at : value_of used DT_JMPREL ≡ None
  pub jumps_size : value_of used DT_PLTRELSZ ≡ None
  pub jumps_kind : value_of used DT_PLTREL ≡ None
  pub caps_at : value_of used DT_CAP_RELOCS ≡ option_if caps v.caps
  pub caps_size : value_of used DT_CAP_RELOCSZ ≡ option_if caps v.caps_size
  pub init_at : value_of used DT_INIT_ARRAY ≡ option_if init v.init
  pub init_size : value_of used DT_INIT_ARRAYSZ ≡ option_if init v.init_size
  pub fini_at : value_of used DT_FINI_ARRAY ≡ option_if fini v.fini
  pub fini_size : value_of used DT_FINI_ARRAYSZ ≡ option_if fini v.fini_size
