-- The sections of a relocatable object (gABI, "Sections").
use Rattle.std.specs.Prelude.{ℕ, ◌+◌, ◌-◌, ◌*◌, ◌/◌, ◌%◌, ◌^◌, max, not, ◌&&◌, ◌||◌, ◌==◌, nat_le, nat_lt, List, [], ◌∷◌, ◌++◌, length, slice_range, slice_index, slice_index_or, ok_or, Result, Ok}
use Rattle.std.specs.Int.{is_power_of_two}
use Rattle.cap_base.specs.Field.{number_at}
use Rattle.cap_base.specs.declared.check.Check.{Check}
use Rattle.cap_base.specs.declared.check.Check.TheVariants.{SectionHeaders, SectionType, SectionFlags, SectionRange, SectionAlignment, SectionAlignmentLimit, SectionSize, SectionNames}
use Rattle.cap_base.specs.declared.refusal.Fault.{Fault}
use Rattle.cap_base.specs.Steps.{◌>>=◌, ◌>>◌, refuse, fault, steps}
use Rattle.cap_elf.specs.declared.decode.Table.{Table}
use Rattle.cap_elf.specs.declared.records.Section.{Section}
use Rattle.cap_elf.specs.Numbers.{SHT_STRTAB, SHT_NOBITS, SHF_ALLOC}
use Rattle.cap_elf.specs.declared.sections.SectionHeader.{SectionHeader}
use Rattle.cap_elf.specs.Names.{rest_of}
use Rattle.cap_elf.specs.SectionTypes.{has_flag, type_fails, flags_fail, class_of}

-- where the section headers stand (e_shoff), and how many they are (e_shnum); one is that of the section of names
-- (e_shstrndx)
unfoldable pub section_table_of : List ℕ → Result Table Fault
section_table_of bytes = do
  let at = number_at 8 bytes 40
  let count = number_at 2 bytes 60
  let outside = nat_lt (length bytes) (at + 64 * count)
  refuse (count == 0 || not (number_at 2 bytes 58 == 64) || outside || nat_le count (number_at 2 bytes 62)) SectionHeaders 40
  Ok (record { at = at; count = count })

-- Elf64_Shdr
unfoldable pub section_header_at : List ℕ → ℕ → SectionHeader
section_header_at bytes at = record {
  name = number_at 4 bytes at;
  kind = number_at 4 bytes (at + 4);
  flags = number_at 8 bytes (at + 8);
  offset = number_at 8 bytes (at + 24);
  size = number_at 8 bytes (at + 32);
  link = number_at 4 bytes (at + 40);
  info = number_at 4 bytes (at + 44);
  align = number_at 8 bytes (at + 48);
  width = number_at 8 bytes (at + 56);
  at = at;
}

-- the header of this index; past the end that of no section (SHT_NULL)
abbrev pub no_header : SectionHeader
no_header = record { name = 0; kind = 0; flags = 0; offset = 0; size = 0; link = 0; info = 0; align = 0; width = 0; at = 0 }

abbrev pub header_at : List SectionHeader → ℕ → SectionHeader
header_at headers i = slice_index_or headers i no_header

-- the bytes of a string table, the first and the last of which are 0 (gABI, "String Table")
unfoldable pub strings_in : List ℕ → SectionHeader → Check → ℕ → Result (List ℕ) Fault
strings_in bytes h check at = do
  refuse (not (h.kind == SHT_STRTAB) || nat_lt (length bytes) (h.offset + h.size)) check at
  let strings = slice_range bytes h.offset (h.offset + h.size)
  refuse (h.size == 0 || not (slice_index strings 0 == 0) || not (slice_index strings (h.size - 1) == 0)) check at
  Ok strings

-- where the records of a section stand, each of 24 bytes (sh_entsize), as symbols and relocations are
unfoldable pub records_in : ℕ → SectionHeader → Check → Result Table Fault
records_in file_len h check = do
  let outside = nat_lt file_len (h.offset + h.size)
  refuse (not (h.width == 24) || not (h.size % 24 == 0) || outside) check h.at
  Ok (record { at = h.offset; count = h.size / 24 })

-- the names of sections (e_shstrndx)
unfoldable pub section_names_of : List ℕ → List SectionHeader → Result (List ℕ) Fault
section_names_of bytes headers =
    let h = header_at headers (number_at 2 bytes 62) in
    strings_in bytes h SectionNames h.at

-- a section that passes each check. "Values 0 and 1 mean the section has no alignment constraints"
unfoldable pub section_of : ℕ → List ℕ → SectionHeader → Result Section Fault
section_of file_len names h = do
  refuse (type_fails h) SectionType h.at
  name ← ok_or (rest_of names h.name) (fault SectionNames h.at)
  refuse (flags_fail name h) SectionFlags h.at
  refuse (not (h.kind == SHT_NOBITS) && nat_lt file_len (h.offset + h.size)) SectionRange h.at
  refuse (not (is_power_of_two (max h.align 1))) SectionAlignment h.at
  refuse (nat_lt 65536 h.align) SectionAlignmentLimit 0
  refuse (has_flag h SHF_ALLOC && h.kind == SHT_NOBITS && nat_lt (2 ^ 26) h.size) SectionSize 0
  Ok (record { class = class_of name h; size = h.size; align = max h.align 1; offset = h.offset; at = h.at })

-- the sections so far, and one more
unfoldable pub section_step : ℕ → List ℕ → List Section → SectionHeader → Result (List Section) Fault
section_step file_len names sections h = do
  s ← section_of file_len names h
  Ok (sections ++ s ∷ [])

-- the sections by their indices
abbrev pub sections_of : ℕ → List ℕ → List SectionHeader → Result (List Section) Fault
sections_of file_len names headers = steps (section_step file_len names) [] headers
