-- The bytes of each record of the linked file.
use Rattle.std.specs.Prelude.{ℕ, ◌+◌, ◌-◌, ◌*◌, ◌%◌, ◌^◌, List, [], ◌∷◌, ◌++◌}
use Rattle.std.specs.List.{flat_map}
use Rattle.std.specs.Int.{cast_unsigned, w64}
use Rattle.cap_base.specs.Field.{number_bytes}
use Rattle.cap_table.specs.Bodies.{zeros}
use Rattle.cap_elf.specs.declared.records.CapReloc.{CapReloc}
use Rattle.cap_elf.specs.declared.records.DynReloc.{DynReloc}
use Rattle.cap_elf.specs.declared.records.Segment.{Segment}
use Rattle.cap_layout.specs.declared.parts.Parts.{Parts}
use Rattle.cap_table.specs.declared.records.DynEntry.{DynEntry}
use Rattle.cap_table.specs.Lists.{DynSymbolValue}

-- the n bytes of a field, the lowest first (ELFDATA2LSB)
unfoldable pub field_bytes : ℕ → ℕ → List ℕ
field_bytes n x = number_bytes n x

-- ELFMAG, ELFCLASS64, ELFDATA2LSB, EV_CURRENT, and zeros (e_ident)
unfoldable pub ident : List ℕ
ident = (0x7F ∷ 0x45 ∷ 0x4C ∷ 0x46 ∷ 2 ∷ 1 ∷ 1 ∷ []) ++ zeros 9

-- the sizes of the headers: of the file, of a segment and how many, of a section and how many, and the section of names
unfoldable pub sizes_header : List ℕ
sizes_header = field_bytes 2 64 ++ field_bytes 2 56 ++ field_bytes 2 6 ++ field_bytes 2 64 ++ field_bytes 2 0 ++ field_bytes 2 0

-- the header of a shared object with six segments (gABI, "ELF Header")
unfoldable pub file_header : ℕ → ℕ → List ℕ
file_header flags entry =
    ident ++ field_bytes 2 3 ++ field_bytes 2 243 ++ field_bytes 4 1
    ++ field_bytes 8 entry ++ field_bytes 8 64 ++ field_bytes 8 0
    ++ field_bytes 4 flags ++ sizes_header

-- the header of a segment of a type (gABI, "Program Header"): its physical address is its virtual one
unfoldable pub segment_header : ℕ → Segment → List ℕ
segment_header kind s =
    field_bytes 4 kind ++ field_bytes 4 s.flags ++ field_bytes 8 s.offset ++ field_bytes 8 s.vaddr ++ field_bytes 8 s.vaddr ++ field_bytes 8 s.filesz ++ field_bytes 8 s.memsz ++ field_bytes 8 s.align

-- a segment whose addresses are its file offsets
abbrev pub segment_from : ℕ → ℕ → ℕ → ℕ → ℕ → Segment
segment_from flags align start file_end mem_end = record {
  vaddr = start;
  memsz = mem_end - start;
  offset = start;
  filesz = file_end - start;
  flags = flags;
  align = align;
}

-- the four segments that are mapped: read, run, written once, written
abbrev pub segments_of : Parts → List Segment
segments_of at =
    segment_from 4 at.align 0 at.ro_end at.ro_end
    ∷ segment_from 5 at.align at.code_start at.code_end at.code_end
    ∷ segment_from 6 at.align at.table_start at.table_end at.table_end
    ∷ segment_from 6 at.align at.data_start at.file_end at.mem_end
    ∷ []

-- the place of the dynamic table, and what is read-only after loading
abbrev pub dynamic_segment : Parts → ℕ → Segment
dynamic_segment at count =
    segment_from 6 16 at.dynamic_at (at.dynamic_at + 16 * count) (at.dynamic_at + 16 * count)

abbrev pub relro_segment : Parts → Segment
relro_segment at = segment_from 4 1 at.table_start at.table_end at.table_end

unfoldable pub segment_headers : Parts → ℕ → List ℕ
segment_headers at count =
    flat_map (segment_header 1) (segments_of at) ++ segment_header 2 (dynamic_segment at count) ++ segment_header 0x6474e552 (relro_segment at)

-- binding and type in one byte, four bits each (ELF64_ST_INFO)
abbrev pub symbol_info : ℕ → ℕ → ℕ
symbol_info binding kind = binding % 16 * 16 + kind % 16

-- a symbol whose name begins at this offset of the names (gABI, "Symbol Table")
unfoldable pub symbol_bytes : ℕ × DynSymbolValue → List ℕ
symbol_bytes p =
    let s = p.1 in
    field_bytes 4 p.0 ++ symbol_info s.binding s.kind ∷ s.visibility ∷ [] ++ field_bytes 2 s.section ++ field_bytes 8 s.value ++ field_bytes 8 s.size

-- the place, the symbol above the type (ELF64_R_INFO), and the addend (gABI, "Relocation")
unfoldable pub rela_bytes : DynReloc → List ℕ
rela_bytes r = field_bytes 8 r.slot ++ field_bytes 8 (r.symbol * 2 ^ 32 + r.kind) ++ field_bytes 8 (cast_unsigned w64 r.addend)

-- a description of a capability: where it is put, where its interval begins, its cursor counted from there, its length
-- and its permissions (`__cap_relocs` of CheriBSD)
unfoldable pub cap_reloc_bytes : CapReloc → List ℕ
cap_reloc_bytes c =
    field_bytes 8 c.location ++ field_bytes 8 c.object ++ field_bytes 8 c.offset ++ field_bytes 8 c.size ++ field_bytes 8 c.permissions

-- gABI, "Dynamic Section"
unfoldable pub entry_bytes : DynEntry → List ℕ
entry_bytes e = field_bytes 8 e.tag ++ field_bytes 8 e.value
