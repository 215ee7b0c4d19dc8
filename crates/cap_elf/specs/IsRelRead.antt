-- What holds of the records of each relocatable object that was read.
use Rattle.std.specs.Prelude.{◌≡◌, ◌≢◌, ℕ, ◌+◌, ◌^◌, ◌<◌, ◌≤◌, true, false, List, [], length, zip, All, IsTrue, slice_index_or, codes}
use Rattle.std.specs.Int.{is_power_of_two}
use Rattle.cap_elf.specs.declared.records.Place.{Place}
use Rattle.cap_elf.specs.declared.records.Place.TheVariants.{Undefined, Absolute, Common, Section as InSection}
use Rattle.cap_elf.specs.declared.records.Section.{Section}
use Rattle.cap_elf.specs.declared.records.Symbol.{Symbol}
use Rattle.cap_elf.specs.declared.records.Reloc.{Reloc}
use Rattle.cap_elf.specs.Classes.{is_kept, is_code, is_array, is_bss}
use Rattle.cap_elf.specs.IsRead.{IsShort, IsNamed}
use Rattle.cap_elf.specs.Records.{null_symbol}
use Rattle.cap_elf.specs.RelObject.{RelObject, section_of, symbol_of, bytes_of, has_content, no_section}

-- a section is aligned to a power of two, and a kept one is no larger than a file or a limit allows
pub record IsSection (s : Section) : Type 0 where
  pub align_power : IsTrue (is_power_of_two s.align)
  pub align_high : s.align ≤ 65536
  pub size_high : is_kept s.class ≡ true → s.size ≤ 2 ^ 62
  pub zeros_high : is_bss s.class ≡ true → s.size ≤ 2 ^ 26

-- a symbol of a section lies in it, where the section is kept: a function in code, no data in code, and nothing but
-- labels in arrays. In a section that isn't kept it is local
pub record IsInSection (s : Symbol) (home : Section) : Type 0 where
  pub within : is_kept home.class ≡ true → s.value + s.size ≤ home.size
  pub function : is_kept home.class ≡ true → s.kind ≡ 2 → is_code home.class ≡ true
  pub object : is_code home.class ≡ true → s.kind ≢ 1
  pub label : is_array home.class ≡ true → (s.kind ≢ 1) × (s.size ≡ 0)
  pub dropped : is_kept home.class ≡ false → s.binding ≡ 0

-- a common symbol is global, and its value is its alignment
pub record IsCommon (s : Symbol) : Type 0 where
  pub global : s.binding ≡ 1
  pub power : IsTrue (is_power_of_two s.value)
  pub align_high : s.value ≤ 65536
  pub size_high : s.size ≤ 2 ^ 26

abbrev pub IsPlaced : List Section → Symbol → Place → Type 0
IsPlaced sections s Undefined = Unit {0}
IsPlaced sections s Absolute = Unit {0}
IsPlaced sections s Common = IsCommon s
IsPlaced sections s (InSection n) = (n < length sections) × IsInSection s (slice_index_or sections n no_section)

-- a symbol of a known type, binding and visibility, whose place is there
pub record IsRelSymbol (sections : List Section) (s : Symbol) : Type 0 where
  pub kind : s.kind ≤ 5
  pub binding : s.binding ≤ 2
  pub visibility : s.visibility < 4
  pub placed : IsPlaced sections s s.place

-- a relocation of a kept section names a symbol
pub record IsReloc (object : RelObject) (r : Reloc) : Type 0 where
  pub section : r.section < length object.sections
  pub kept : is_kept (section_of object r.section).class ≡ true
  pub symbol : r.symbol < length object.symbols

-- the bytes of sections lie in a file of this length
abbrev pub AreInside : ℕ → List Section → Type 0
AreInside file_len sections = All (λ s. has_content s ≡ true → s.offset + s.size ≤ file_len) sections

-- the records of each relocatable object that was read
pub record IsRelRead (object : RelObject) : Type 0 where
  pub section_few : length object.sections < 2 ^ 16
  pub sections_are : All IsSection object.sections
  pub symbol_some : 0 < length object.symbols
  pub symbol_few : length object.symbols ≤ 2 ^ 20
  pub null_first : symbol_of object 0 ≡ null_symbol (symbol_of object 0).at
  pub symbols_are : All (IsRelSymbol object.sections) object.symbols
  pub name_count : length object.names ≡ length object.symbols
  pub null_name : slice_index_or object.names 0 (codes "-") ≡ []
  pub names_are : All IsShort object.names
  pub named : All IsNamed (zip object.symbols object.names)
  pub reloc_few : length object.relocs ≤ 2 ^ 20
  pub relocs_are : All (IsReloc object) object.relocs
  pub content_count : length object.contents ≡ length object.sections
  pub contents_are : (i : ℕ) → i < length object.sections → has_content (section_of object i) ≡ true → length (bytes_of object i) ≡ (section_of object i).size
