-- The relocations of a relocatable object (gABI, "Relocation").
use Rattle.std.specs.Prelude.{ℕ, ◌+◌, ◌^◌, false, not, ◌||◌, ◌==◌, nat_le, nat_lt, List, [], ◌++◌, length, map, slice_index_or, slice_set, if◌then◌else◌, Option, Some, None, Result, Ok}
use Rattle.std.specs.Option.{is_some}
use Rattle.std.specs.Int.{w64, cast_signed}
use Rattle.std.specs.List.{range_with_len}
use Rattle.cap_base.specs.Field.{number_at}
use Rattle.cap_base.specs.declared.check.Check.TheVariants.{RelocationSection, RelocationCount, RelocationSymbol}
use Rattle.cap_base.specs.declared.refusal.Fault.{Fault}
use Rattle.cap_base.specs.Steps.{◌>>=◌, ◌>>◌, refuse, steps}
use Rattle.cap_elf.specs.declared.decode.Table.{Table}
use Rattle.cap_elf.specs.declared.records.Reloc.{Reloc}
use Rattle.cap_elf.specs.declared.records.Section.{Section}
use Rattle.cap_elf.specs.declared.rel_relocs.Target.{Target}
use Rattle.cap_elf.specs.Numbers.{SHT_SYMTAB, SHT_RELA}
use Rattle.cap_elf.specs.declared.sections.SectionHeader.{SectionHeader}
use Rattle.cap_elf.specs.Classes.{is_kept}
use Rattle.cap_elf.specs.Records.{table}
use Rattle.cap_elf.specs.RelObject.{no_section}
use Rattle.cap_elf.specs.Sections.{header_at, records_in}

-- a section that no relocations change
abbrev pub target_at : List Section → ℕ → Target
target_at sections i = record { section = i; is_kept = is_kept (slice_index_or sections i no_section).class; relocs = None }

abbrev pub targets_at : List Section → List Target
targets_at sections = map (target_at sections) (range_with_len 0 (length sections))

abbrev pub no_target : Target
no_target = record { section = 0; is_kept = false; relocs = None }

-- the sections with their relocations so far, and with those of one more section: its sh_link is the symbol table, and
-- its sh_info the section that they change, which has no others
unfoldable pub target_step : ℕ → List SectionHeader → List Target → SectionHeader → Result (List Target) Fault
target_step file_len headers targets h = if not (h.kind == SHT_RELA) then Ok targets else do
  place ← records_in file_len h RelocationSection
  refuse (not ((header_at headers h.link).kind == SHT_SYMTAB)) RelocationSection h.at
  refuse (h.info == 0 || nat_le (length targets) h.info) RelocationSection h.at
  let target = slice_index_or targets h.info no_target
  refuse (is_some target.relocs) RelocationSection h.at
  Ok (slice_set targets h.info (record target { relocs = Some place }))

-- the sections with their relocations, by their indices
abbrev pub targets_of : ℕ → List SectionHeader → List Section → Result (List Target) Fault
targets_of file_len headers sections = steps (target_step file_len headers) (targets_at sections) headers

-- where the relocations of a section stand: nowhere, where it isn't kept
abbrev pub place_or_none : Option Table → Table
place_or_none None = record { at = 0; count = 0 }
place_or_none (Some place) = place

unfoldable pub kept_relocs : Target → Table
kept_relocs t = if t.is_kept then place_or_none t.relocs else record { at = 0; count = 0 }

-- Elf64_Rela: the upper half of r_info is the symbol and its lower half the kind
unfoldable pub rel_reloc_at : List ℕ → ℕ → ℕ → Reloc
rel_reloc_at bytes section at = record {
  section = section;
  offset = number_at 8 bytes at;
  kind = number_at 4 bytes (at + 8);
  symbol = number_at 4 bytes (at + 12);
  addend = cast_signed w64 (number_at 8 bytes (at + 16));
  at = at;
}

-- the relocations so far, and those of one more section, with so many at most
unfoldable pub relocs_step : List ℕ → List Reloc → Target → Result (List Reloc) Fault
relocs_step bytes relocs t = do
  let place = kept_relocs t
  refuse (nat_lt (2 ^ 20) (length relocs + place.count)) RelocationCount 0
  Ok (relocs ++ table (rel_reloc_at bytes t.section) place.at 24 place.count)

abbrev pub relocs_at : List ℕ → List Target → Result (List Reloc) Fault
relocs_at bytes targets = steps (relocs_step bytes) [] targets

-- a relocation names one of so many symbols
unfoldable pub names_symbol : ℕ → Unit {0} → Reloc → Result (Unit {0}) Fault
names_symbol symbols _ r = refuse (nat_le symbols r.symbol) RelocationSymbol r.at

abbrev pub name_symbols : ℕ → List Reloc → Result (Unit {0}) Fault
name_symbols symbols relocs = steps (names_symbol symbols) tt relocs

-- the relocations of kept sections, each of which names one of so many symbols, by the sections that they change
unfoldable pub rel_relocs_of : List ℕ → List SectionHeader → List Section → ℕ → Result (List Reloc) Fault
rel_relocs_of bytes headers sections symbols = do
  targets ← targets_of (length bytes) headers sections
  relocs ← relocs_at bytes targets
  name_symbols symbols relocs
  Ok relocs
