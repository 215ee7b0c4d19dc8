-- A relocatable object as a value: its records, its symbols' names, and the bytes of its sections.
use Rattle.std.specs.Prelude.{ℕ, ◌+◌, Bool, ◌&&◌, not, List, [], map, slice_range, slice_index_or, if◌then◌else◌}
use Rattle.cap_elf.specs.declared.records.Class.TheVariants.{Dropped}
use Rattle.cap_elf.specs.declared.records.Section.{Section}
use Rattle.cap_elf.specs.declared.records.Symbol.{Symbol}
use Rattle.cap_elf.specs.declared.records.Reloc.{Reloc}
use Rattle.cap_elf.specs.Classes.{is_kept, is_bss}
use Rattle.cap_elf.specs.Records.{null_symbol}

pub record RelObject : Type 0 where
  pub number : ℕ
  pub flags : ℕ
  pub sections : List Section
  pub symbols : List Symbol
  pub names : List (List ℕ)
  pub relocs : List Reloc
  pub contents : List (List ℕ)

-- a section that is kept and has bytes in the file
abbrev pub has_content : Section → Bool
has_content s = is_kept s.class && not (is_bss s.class)

-- the bytes of a section, none where it has none in the file
abbrev pub content_of : List ℕ → Section → List ℕ
content_of bytes s = if has_content s then slice_range bytes s.offset (s.offset + s.size) else []

abbrev pub contents_of : List ℕ → List Section → List (List ℕ)
contents_of bytes sections = map (content_of bytes) sections

-- the records by their numbers; past the end a dropped section and the null symbol
abbrev pub no_section : Section
no_section = record { class = Dropped; size = 0; align = 1; offset = 0; at = 0 }

abbrev pub section_of : RelObject → ℕ → Section
section_of file i = slice_index_or file.sections i no_section

abbrev pub symbol_of : RelObject → ℕ → Symbol
symbol_of file i = slice_index_or file.symbols i (null_symbol 0)

abbrev pub name_of : RelObject → ℕ → List ℕ
name_of file i = slice_index_or file.names i []

abbrev pub bytes_of : RelObject → ℕ → List ℕ
bytes_of file i = slice_index_or file.contents i []

-- no file, where a number is past the end
abbrev pub no_object : RelObject
no_object = record { number = 0; flags = 0; sections = []; symbols = []; names = []; relocs = []; contents = [] }

-- the relocatable inputs by their numbers
abbrev pub file_of : List RelObject → ℕ → RelObject
file_of rels i = slice_index_or rels i no_object

-- the object of its parts; `bytes` are those of the whole file
abbrev pub rel_object : ℕ → ℕ → List Section → List Symbol → List (List ℕ) → List Reloc → List ℕ → RelObject
rel_object number flags sections symbols names relocs bytes = record {
  number = number;
  flags = flags;
  sections = sections;
  symbols = symbols;
  names = names;
  relocs = relocs;
  contents = contents_of bytes sections;
}
