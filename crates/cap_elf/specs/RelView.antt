-- What a relocatable object's bytes are: the records, or the first check that fails.
use Rattle.std.specs.Prelude.{ℕ, List, length, map, Result, Ok}
use Rattle.cap_base.specs.declared.refusal.Fault.{Fault}
use Rattle.cap_base.specs.Steps.{◌>>=◌}
use Rattle.cap_elf.specs.declared.records.Section.{Section}
use Rattle.cap_elf.specs.declared.records.Symbol.{Symbol}
use Rattle.cap_elf.specs.declared.records.Reloc.{Reloc}
use Rattle.cap_elf.specs.declared.rel_reading.RelRecords.{RelRecords}
use Rattle.cap_elf.specs.Header.{header_of}
use Rattle.cap_elf.specs.NamePlaces.{strings_at, names_at}
use Rattle.cap_elf.specs.Records.{table}
use Rattle.cap_elf.specs.Sections.{section_table_of, section_header_at, section_names_of, sections_of}
use Rattle.cap_elf.specs.RelSymbols.{symtab_of, rel_named_in}
use Rattle.cap_elf.specs.RelRelocs.{rel_relocs_of}
use Rattle.cap_elf.specs.RelObject.{RelObject, rel_object}

-- the records of a relocatable object. The names are those of the symbols, by their indices
pub record RelView : Type 0 where
  pub flags : ℕ
  pub sections : List Section
  pub symbols : List Symbol
  pub names : List (List ℕ)
  pub relocs : List Reloc

-- the records that were read from these bytes, as contracts see them
abbrev pub rel_records_view : List ℕ → RelRecords → RelView
rel_records_view bytes r = record { flags = r.flags; sections = r.sections.items; symbols = r.symbols.items; names = names_at (strings_at bytes r.strings) r.names.items; relocs = r.relocs.items }

-- the stages in the order of the checks
unfoldable pub rel_records_of : List ℕ → Result RelView Fault
rel_records_of bytes = do
  flags ← header_of 1 bytes
  place ← section_table_of bytes
  let headers = table (section_header_at bytes) place.at 64 place.count
  names ← section_names_of bytes headers
  sections ← sections_of (length bytes) names headers
  symtab ← symtab_of bytes headers
  named ← rel_named_in bytes sections symtab
  relocs ← rel_relocs_of bytes headers sections symtab.place.count
  Ok (record { flags = flags; sections = sections; symbols = map (λ n. n.symbol) named; names = map (λ n. n.name) named; relocs = relocs })

-- the object of these records, whose file has this number
unfoldable pub rel_view : ℕ → List ℕ → Result RelObject Fault
rel_view number bytes = do
  r ← rel_records_of bytes
  Ok (rel_object number r.flags r.sections r.symbols r.names r.relocs bytes)
