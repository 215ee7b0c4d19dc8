-- The records of a linked file, each as its fields in order.
use Rattle.std.specs.Prelude.{ℕ, ◌+◌, ◌-◌, ◌*◌, List, [], ◌∷◌}
use Rattle.cap_elf.specs.declared.records.Segment.{Segment}
use Rattle.cap_elf.specs.declared.decode.ProgramHeader.{ProgramHeader}
use Rattle.cap_layout.specs.declared.parts.Parts.{Parts}
use Rattle.cap_readback.specs.Stands.{fields}

-- a field: how many bytes it has, and its value
abbrev pub Field : Type 0
Field = ℕ × ℕ

-- the header of a shared object with six segments
abbrev pub header_fields : ℕ → ℕ → List Field
header_fields flags entry =
    (4, 0x464c457f) ∷ (1, 2) ∷ (1, 1) ∷ (1, 1) ∷ (1, 0) ∷ (8, 0) ∷ (2, 3) ∷ (2, 243) ∷ (4, 1) ∷ (8, entry) ∷ (8, 64) ∷ (8, 0) ∷ (4, flags)
    ∷ (2, 64) ∷ (2, 56) ∷ (2, 6) ∷ (2, 64) ∷ (2, 0) ∷ (2, 0) ∷ []

-- the header of a segment of a type: its physical address is its virtual one
abbrev pub segment_fields : ℕ × Segment → List Field
segment_fields p =
    let s = p.1 in
    (4, p.0) ∷ (4, s.flags) ∷ (8, s.offset) ∷ (8, s.vaddr) ∷ (8, s.vaddr) ∷ (8, s.filesz) ∷ (8, s.memsz) ∷ (8, s.align) ∷ []

abbrev pub segment_bytes : ℕ × Segment → List ℕ
segment_bytes p = fields (segment_fields p)

abbrev pub segment_read : ℕ → ℕ × Segment → ProgramHeader
segment_read at p = record { kind = p.0; segment = p.1; at = at }

-- a segment whose addresses are its file offsets
abbrev pub segment_from : ℕ → ℕ → ℕ → ℕ → ℕ → Segment
segment_from flags align start file_end mem_end = record {
  vaddr = start;
  memsz = mem_end - start;
  offset = start;
  filesz = file_end - start;
  flags = flags;
  align = align;
}

-- the four segments that are mapped: read, run, written once, written
abbrev pub segments_of : Parts → List Segment
segments_of at =
    segment_from 4 at.align 0 at.ro_end at.ro_end
    ∷ segment_from 5 at.align at.code_start at.code_end at.code_end
    ∷ segment_from 6 at.align at.table_start at.table_end at.table_end
    ∷ segment_from 6 at.align at.data_start at.file_end at.mem_end
    ∷ []

-- the place of the dynamic table, and what is read-only after loading
abbrev pub dynamic_segment : Parts → ℕ → Segment
dynamic_segment at count =
    segment_from 6 16 at.dynamic_at (at.dynamic_at + 16 * count) (at.dynamic_at + 16 * count)

abbrev pub relro_segment : Parts → Segment
relro_segment at = segment_from 4 1 at.table_start at.table_end at.table_end

abbrev pub headers_of_file : Parts → ℕ → List (ℕ × Segment)
headers_of_file at count =
    (1, segment_from 4 at.align 0 at.ro_end at.ro_end)
    ∷ (1, segment_from 5 at.align at.code_start at.code_end at.code_end)
    ∷ (1, segment_from 6 at.align at.table_start at.table_end at.table_end)
    ∷ (1, segment_from 6 at.align at.data_start at.file_end at.mem_end)
    ∷ (2, dynamic_segment at count)
    ∷ (0x6474e552, relro_segment at)
    ∷ []
