-- What holds of the records of each shared object that was read.
use Rattle.std.specs.Prelude.{◌≡◌, ◌≢◌, ℕ, ◌+◌, ◌%◌, ◌^◌, ◌<◌, ◌≤◌, max, Bool, false, List, [], length, zip, map, filter, All, AllPairs, Any, IfSome, IsTrue, slice_index, slice_index_or, codes}
use Rattle.std.specs.Int.{is_power_of_two}
use Rattle.cap_base.specs.Text.{is_plain}
use Rattle.cap_elf.specs.declared.records.Segment.{Segment}
use Rattle.cap_elf.specs.declared.records.Symbol.{Symbol}
use Rattle.cap_elf.specs.Ends.{end_of, writes}
use Rattle.cap_elf.specs.Segments.{is_writable_code}
use Rattle.cap_elf.specs.Names.{has_slash}
use Rattle.cap_elf.specs.Exported.{is_exported}
use Rattle.cap_elf.specs.DynView.{DynRecords}

-- a segment ends within the span, its part of the file is no longer than it, its address and its offset agree at its
-- alignment (where 0 counts as 1), and it isn't code that may be written
pub record IsSegment (span : ℕ) (s : Segment) : Type 0 where
  pub within : end_of s ≤ span
  pub file_part : s.filesz ≤ s.memsz
  pub power : IsTrue (is_power_of_two (max s.align 1))
  pub align_high : s.align ≤ 2 ^ 26
  pub congruent : s.offset % max s.align 1 ≡ s.vaddr % max s.align 1
  pub protected : is_writable_code s ≡ false

-- the segments ascend, each behind the end of the ones before
abbrev pub Ascend : List Segment → Type 0
Ascend segments = AllPairs (λ a b. end_of a ≤ b.vaddr) segments

-- the range begins in one writable segment, and ends there at the latest
pub record IsRelro (segments : List Segment) (range : ℕ × ℕ) : Type 0 where
  pub ordered : range.0 ≤ range.1
  pub held : Any (λ s. (s.vaddr ≤ range.0) × (range.1 ≤ end_of s) × IsTrue (writes s)) segments

-- a text of printable characters, 255 of them at most
pub record IsShort (text : List ℕ) : Type 0 where
  pub plain : IsTrue (is_plain text)
  pub short : length text ≤ 255

-- such a text that is the name of a file in a directory: it isn't empty, and has no slash
pub record IsFileName (name : List ℕ) : Type 0 where
  pub plain : IsTrue (is_plain name)
  pub some : 0 < length name
  pub short : length name ≤ 255
  pub no_slash : has_slash name ≡ false

-- a symbol of a known type and binding
pub record IsSymbol (s : Symbol) : Type 0 where
  pub kind : s.kind ≤ 5
  pub binding : s.binding ≤ 2

-- a symbol that isn't local has a name
abbrev pub IsNamed : Symbol × List ℕ → Type 0
IsNamed s = s.0.binding ≢ 0 → 0 < length s.1

-- the names of the symbols that pass a test
abbrev pub names_where : (Symbol → Bool) → List Symbol → List (List ℕ) → List (List ℕ)
names_where test symbols names = map (λ s. s.1) (filter (λ s. test s.0) (zip symbols names))

-- the names of the symbols that are defined and not local
abbrev pub exported_names : List Symbol → List (List ℕ) → List (List ℕ)
exported_names symbols names = names_where is_exported symbols names

-- no two symbols that pass a test have one name, whichever the test is that exported symbols alone pass
abbrev pub AreDistinct : List Symbol → List (List ℕ) → Type 0
AreDistinct symbols names = (test : Symbol → Bool) → ((s : Symbol) → IsTrue (test s) → IsTrue (is_exported s)) → AllPairs (λ a b. a ≢ b) (names_where test symbols names)

-- an array begins and ends at multiples of 16, within the span
pub record IsArray (span at size : ℕ) : Type 0 where
  pub begins : at % 16 ≡ 0
  pub whole : size % 16 ≡ 0
  pub within : at + size ≤ span

-- the records of each shared object that was read
pub record IsRead (object : DynRecords) : Type 0 where
  pub align_power : IsTrue (is_power_of_two object.align)
  pub align_low : 4096 ≤ object.align
  pub align_high : object.align ≤ 2 ^ 26
  pub aligned : All (λ s. s.align ≤ object.align) object.segments
  pub span_some : 0 < object.span
  pub span_pages : object.span % 4096 ≡ 0
  pub span_high : object.span ≤ 2 ^ 62
  pub segments_are : All (IsSegment object.span) object.segments
  pub ascend : Ascend object.segments
  pub relro_is : IfSome object.relro (IsRelro object.segments)
  pub symbol_some : 0 < length object.symbols
  pub symbol_few : length object.symbols ≤ 2 ^ 20
  pub symbols_are : All IsSymbol object.symbols
  pub name_count : length object.names ≡ length object.symbols
  pub null_name : slice_index_or object.names 0 (codes "-") ≡ []
  pub names_are : All IsShort object.names
  pub named : All IsNamed (zip object.symbols object.names)
  pub distinct : AreDistinct object.symbols object.names
  pub references : All (λ r. r.symbol < length object.symbols) object.relocs
  pub reloc_few : length object.relocs + length object.cap_relocs ≤ 2 ^ 20
  pub hash_buckets : 0 < slice_index object.hash_words 0
  pub hash_chains : slice_index object.hash_words 1 ≡ length object.symbols
  pub hash_len : length object.hash_words ≡ 2 + slice_index object.hash_words 0 + slice_index object.hash_words 1
  pub init_is : IsArray object.span object.arrays.init_at object.arrays.init_size
  pub fini_is : IsArray object.span object.arrays.fini_at object.arrays.fini_size
  pub needed_are : All IsFileName object.needed
  pub soname_is : IfSome object.soname IsFileName
