-- The bytes of the records as they were first written, from bytes and numbers put together.
use Rattle.std.specs.Prelude.{ℕ, ◌+◌, ◌*◌, ◌^◌, List, [], ◌∷◌, ◌++◌, replicate}
use Rattle.std.specs.Int.{cast_unsigned, w64}
use Rattle.byteorder.specs.Endian.{little_bytes}
use Rattle.cap_elf.specs.declared.records.Segment.{Segment}
use Rattle.cap_elf.specs.declared.records.DynReloc.{DynReloc}
use Rattle.cap_elf.specs.declared.records.CapReloc.{CapReloc}
use Rattle.cap_readback.specs.Content.{Planned}

abbrev pub file_header : ℕ → ℕ → List ℕ
file_header flags entry =
    (0x7F ∷ 0x45 ∷ 0x4C ∷ 0x46 ∷ 2 ∷ 1 ∷ 1 ∷ []) ++ replicate 9 0
    ++ little_bytes 2 3 ++ little_bytes 2 243 ++ little_bytes 4 1
    ++ little_bytes 8 entry ++ little_bytes 8 64 ++ little_bytes 8 0
    ++ little_bytes 4 flags
    ++ little_bytes 2 64 ++ little_bytes 2 56 ++ little_bytes 2 6 ++ little_bytes 2 64 ++ little_bytes 2 0 ++ little_bytes 2 0

abbrev pub segment_header : ℕ → Segment → List ℕ
segment_header kind s =
    little_bytes 4 kind ++ little_bytes 4 s.flags ++ little_bytes 8 s.offset ++ little_bytes 8 s.vaddr ++ little_bytes 8 s.vaddr ++ little_bytes 8 s.filesz ++ little_bytes 8 s.memsz ++ little_bytes 8 s.align

abbrev pub cap_reloc_bytes : CapReloc → List ℕ
cap_reloc_bytes c = little_bytes 8 c.location ++ little_bytes 8 c.object ++ little_bytes 8 c.offset ++ little_bytes 8 c.size ++ little_bytes 8 c.permissions

abbrev pub symbol_bytes_of : Planned → List ℕ
symbol_bytes_of p =
    let s = p.symbol in
    little_bytes 4 p.name.0 ++ (s.binding * 16 + s.kind) ∷ s.visibility ∷ [] ++ little_bytes 2 s.section ++ little_bytes 8 s.value ++ little_bytes 8 s.size

abbrev pub rela_bytes : DynReloc → List ℕ
rela_bytes r = little_bytes 8 r.slot ++ little_bytes 8 (r.symbol * 2 ^ 32 + r.kind) ++ little_bytes 8 (cast_unsigned w64 r.addend)
