-- The bytes of each record of an object.
use Rattle.std.specs.Prelude.{ℕ, ◌+◌, ◌*◌, ◌%◌, ◌^◌, List, [], ◌∷◌, ◌++◌, replicate}
use Rattle.cap_base.specs.Field.{number_bytes}
use Rattle.cap_demo.specs.declared.symbols.Symbol.{Symbol}
use Rattle.cap_demo.specs.declared.records.Section.{Section}

-- the n bytes of a field, the lowest first (ELFDATA2LSB)
unfoldable pub field_bytes : ℕ → ℕ → List ℕ
field_bytes n x = number_bytes n x

unfoldable pub zeros : ℕ → List ℕ
zeros n = replicate n 0

-- ELFMAG, ELFCLASS64, ELFDATA2LSB, EV_CURRENT, and zeros (e_ident)
unfoldable pub ident : List ℕ
ident = (0x7F ∷ 0x45 ∷ 0x4C ∷ 0x46 ∷ 2 ∷ 1 ∷ 1 ∷ []) ++ zeros 9

-- the sizes of the headers: of the file, of a segment and how many, of a section and how many, and the section of names
unfoldable pub sizes_header : List ℕ
sizes_header = field_bytes 2 64 ++ field_bytes 2 0 ++ field_bytes 2 0 ++ field_bytes 2 64 ++ field_bytes 2 6 ++ field_bytes 2 5

-- the header of a relocatable object (ET_REL) of pure capabilities for RISC-V, whose section headers begin here (gABI,
-- "ELF Header")
unfoldable pub file_header : ℕ → List ℕ
file_header sections_at =
    ident ++ field_bytes 2 1 ++ field_bytes 2 243 ++ field_bytes 4 1
    ++ field_bytes 8 0 ++ field_bytes 8 0 ++ field_bytes 8 sections_at
    ++ field_bytes 4 0x30000 ++ sizes_header

-- the header of a section of so many bytes from an offset on (gABI, "Section Header")
unfoldable pub section_header : Section → ℕ → ℕ → List ℕ
section_header s offset size =
    field_bytes 4 s.name ++ field_bytes 4 s.kind ++ field_bytes 8 s.flags ++ field_bytes 8 0 ++ field_bytes 8 offset ++ field_bytes 8 size ++ field_bytes 4 s.link ++ field_bytes 4 s.info ++ field_bytes 8 s.align ++ field_bytes 8 s.entry

-- a symbol whose name begins at this offset of the names: its binding, GLOBAL, above its type (ELF64_ST_INFO), and its
-- visibility, DEFAULT (gABI, "Symbol Table")
unfoldable pub symbol_bytes : ℕ → Symbol → List ℕ
symbol_bytes name_at s =
    field_bytes 4 name_at ++ (16 + s.kind % 16) ∷ 0 ∷ [] ++ field_bytes 2 s.section ++ field_bytes 8 s.value ++ field_bytes 8 s.size

-- a capability to a symbol (R_RISCV_CHERI_CAPABILITY): its place, the symbol above the type (ELF64_R_INFO), no addend
unfoldable pub capability_bytes : ℕ → ℕ → List ℕ
capability_bytes at symbol = field_bytes 8 at ++ field_bytes 8 (symbol * 2 ^ 32 + 193) ++ field_bytes 8 0
