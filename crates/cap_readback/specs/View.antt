-- What stands in a linked file, what its plan keeps, and what is read of it.
use Rattle.std.specs.Prelude.{◌≡◌, ℕ, ◌+◌, ◌*◌, ◌%◌, ◌^◌, ◌≤◌, ◌<◌, Bool, true, false, List, [], ◌∷◌, ◌++◌, length, map, replicate, Option, Some, None}
use Rattle.std.specs.Int.{next_multiple_of}
use Rattle.std.specs.Prelude.{◌⊎◌, ◌&&◌, ◌==◌, option_to_list, Result, Err}
use Rattle.cap_base.specs.declared.check.Check.TheVariants.{NeededName, Array}
use Rattle.cap_base.specs.declared.refusal.Fault.{Fault}
use Rattle.std.specs.List.{flat_map, list_all, AllByRecursion}
use Rattle.cap_elf.specs.declared.records.DynReloc.{DynReloc}
use Rattle.cap_elf.specs.declared.records.CapReloc.{CapReloc}
use Rattle.cap_elf.specs.Header.{lacks_flags}
use Rattle.cap_elf.specs.Records.{null_symbol}
use Rattle.cap_elf.specs.DynView.{DynRecords}
use Rattle.cap_layout.specs.declared.parts.Parts.{Parts}
use Rattle.cap_readback.specs.Stands.{Stands, fields, AreSmall}
use Rattle.cap_readback.specs.Written.{header_fields, segment_bytes, headers_of_file, segments_of}
use Rattle.cap_readback.specs.Plan.{AreLaid}
use Rattle.cap_readback.specs.Lists.{placed, Entry, entry_bytes, Values, entries_of}
use Rattle.cap_readback.specs.Content.{terminated, Name, IsLibrary, is_taken, Planned, symbol_bytes, symbol_read, IsGood, AreNew, reloc_bytes, reloc_read, IsGoodReloc, cap_fields, cap_bytes, cap_read, word_bytes}

abbrev pub own_offset : Option Name → Option ℕ
own_offset None = None
own_offset (Some n) = Some n.0

abbrev pub own_name : Option Name → Option (List ℕ)
own_name None = None
own_name (Some n) = Some n.1

abbrev pub IsOwn : List ℕ → Option Name → Type 0
IsOwn strings None = Unit {0}
IsOwn strings (Some n) = IsLibrary strings n

abbrev pub has_some : {X : Type 0} → List X → Bool
has_some [] = false
has_some (x ∷ xs) = true

abbrev pub pair_if : Bool → ℕ → ℕ → ℕ × ℕ
pair_if true at size = (at, size)
pair_if false at size = (0, 0)

-- the array begins at a multiple of 16, and is in the third segment
pub record IsArray (at : Parts) (start size : ℕ) : Type 0 where
  pub start_whole : start % 16 ≡ 0
  pub from : at.table_start ≤ start
  pub end : start + size ≤ at.table_end

-- what a linker plans. The symbols are those after the null symbol; the words of the hash table are the two counts and
-- more; the names are all those of the string table
pub record Content : Type 0 where
  pub at : Parts
  pub flags : ℕ
  pub entry : ℕ
  pub symbols : List Planned
  pub relas : List DynReloc
  pub caps : List CapReloc
  pub buckets : ℕ
  pub more : List ℕ
  pub names : List (List ℕ)
  pub needed : List Name
  pub own : Option Name
  pub has_init : Bool
  pub has_fini : Bool

abbrev pub strings : Content → List ℕ
strings c = 0 ∷ terminated c.names

abbrev pub symbol_count : Content → ℕ
symbol_count c = 1 + length c.symbols

abbrev pub values : Content → Values
values c = record {
  hash = c.at.hash_at;
  strings = c.at.names_at;
  symbols = c.at.symbols_at;
  strings_size = length (strings c);
  relas = c.at.relas_at;
  relas_size = 24 * length c.relas;
  caps = c.at.cap_relocs_at;
  caps_size = 40 * length c.caps;
  init = c.at.init_at;
  init_size = c.at.init_size;
  fini = c.at.fini_at;
  fini_size = c.at.fini_size;
}

-- the entries of the dynamic table before its end
abbrev pub entries : Content → List Entry
entries c = entries_of (map (λ n. n.0) c.needed) (own_offset c.own) (has_some c.relas) (has_some c.caps) c.has_init c.has_fini (values c)

abbrev pub dynamics : Content → List Entry
dynamics c = entries c ++ (0, 0) ∷ []

abbrev pub words : Content → List ℕ
words c = c.buckets ∷ symbol_count c ∷ c.more

-- each part stands at its place
pub record IsWritten (bytes : List ℕ) (c : Content) : Type 0 where
  pub long : length bytes ≡ c.at.file_end
  pub header : Stands bytes 0 (fields (header_fields c.flags c.entry))
  pub segments : Stands bytes 64 (flat_map segment_bytes (headers_of_file c.at (length (dynamics c))))
  pub symbols : Stands bytes c.at.symbols_at (replicate 24 0 ++ flat_map symbol_bytes c.symbols)
  pub relas : Stands bytes c.at.relas_at (flat_map reloc_bytes c.relas)
  pub caps : Stands bytes c.at.cap_relocs_at (flat_map cap_bytes c.caps)
  pub words : Stands bytes c.at.hash_at (flat_map word_bytes (words c))
  pub names : Stands bytes c.at.names_at (strings c)
  pub dynamics : Stands bytes c.at.dynamic_at (flat_map entry_bytes (dynamics c))

-- the tables are in the first segment, the counts are low, and each record is one that a reader takes
pub record IsPlanned (c : Content) : Type 0 where
  pub laid : AreLaid c.at (length (dynamics c))
  pub flags : c.flags < 2 ^ 32
  pub pure : lacks_flags c.flags ≡ false
  pub entry : c.entry < 2 ^ 64
  pub symbols_in : c.at.symbols_at + 24 * symbol_count c ≤ c.at.ro_end
  pub relas_in : c.at.relas_at + 24 * length c.relas ≤ c.at.ro_end
  pub caps_in : c.at.cap_relocs_at + 40 * length c.caps ≤ c.at.ro_end
  pub words_in : c.at.hash_at + 4 * (2 + c.buckets + symbol_count c) ≤ c.at.ro_end
  pub names_in : c.at.names_at + length (strings c) ≤ c.at.ro_end
  pub few_symbols : symbol_count c ≤ 2 ^ 20
  pub few_relocs : length c.relas + length c.caps ≤ 2 ^ 20
  pub some_bucket : 0 < c.buckets
  pub word_count : length c.more ≡ c.buckets + symbol_count c
  pub words : AllByRecursion (λ w. w < 2 ^ 32) (words c)
  pub needed : AllByRecursion (IsLibrary (strings c)) c.needed
  pub own : IsOwn (strings c) c.own
  pub symbols : AllByRecursion (IsGood (strings c)) c.symbols
  pub new : AreNew [] c.symbols
  pub relas : AllByRecursion (IsGoodReloc (symbol_count c)) c.relas
  pub caps : AllByRecursion (λ p. AreSmall (cap_fields p)) c.caps
  pub init : IsArray c.at c.at.init_at c.at.init_size
  pub fini : IsArray c.at c.at.fini_at c.at.fini_size

-- the array has whole capabilities, if it is there
abbrev pub is_whole : Bool → ℕ → Bool
is_whole true size = size % 16 == 0
is_whole false size = true

-- the parts that a reader may refuse: the needed names, the own name, and the arrays
abbrev pub is_plain : Content → Bool
is_plain c = list_all is_taken c.needed && (list_all is_taken (option_to_list c.own) && (is_whole c.has_init c.at.init_size && is_whole c.has_fini c.at.fini_size))

-- reading is refused by a name or by an array
pub record Refused {Y : Type 0} (r : Result Y Fault) : Type 0 where
  pub fault : Fault
  pub is : r ≡ Err fault
  pub check : (fault.check ≡ NeededName) ⊎ (fault.check ≡ Array)

-- what is read of the file
abbrev pub view_of : Content → DynRecords
view_of c = record {
  flags = c.flags;
  segments = segments_of c.at;
  relro = Some (c.at.table_start, c.at.table_end);
  symbols = null_symbol c.at.symbols_at ∷ placed symbol_read (c.at.symbols_at + 24) 24 0 c.symbols;
  names = [] ∷ map (λ p. p.name.1) c.symbols;
  relocs = placed reloc_read c.at.relas_at 24 0 c.relas;
  cap_relocs = placed cap_read c.at.cap_relocs_at 40 0 c.caps;
  hash_words = words c;
  hash_at = c.at.hash_at;
  arrays = record {
    init_at = (pair_if c.has_init c.at.init_at c.at.init_size).0;
    init_size = (pair_if c.has_init c.at.init_at c.at.init_size).1;
    fini_at = (pair_if c.has_fini c.at.fini_at c.at.fini_size).0;
    fini_size = (pair_if c.has_fini c.at.fini_at c.at.fini_size).1;
  };
  needed = map (λ n. n.1) c.needed;
  soname = own_name c.own;
  symbolic = false;
  span = next_multiple_of c.at.mem_end 4096;
  align = c.at.align;
}
