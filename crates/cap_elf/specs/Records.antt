-- The records of a file, as they stand in it.
use Rattle.std.specs.Prelude.{ℕ, ◌+◌, ◌*◌, ◌/◌, ◌%◌, ◌==◌, List, map, slice_index, if◌then◌else◌}
use Rattle.std.specs.List.{range_with_len}
use Rattle.std.specs.Int.{w64, cast_signed}
use Rattle.cap_base.specs.Field.{number_at}
use Rattle.cap_elf.specs.declared.records.Segment.{Segment}
use Rattle.cap_elf.specs.declared.decode.ProgramHeader.{ProgramHeader}
use Rattle.cap_elf.specs.declared.decode.DynEntry.{DynEntry}
use Rattle.cap_elf.specs.declared.records.Place.{Place}
use Rattle.cap_elf.specs.declared.records.Place.TheVariants.{Undefined, Absolute, Section}
use Rattle.cap_elf.specs.declared.records.Symbol.{Symbol}
use Rattle.cap_elf.specs.declared.decode.SymbolEntry.{SymbolEntry}
use Rattle.cap_elf.specs.declared.records.DynReloc.{DynReloc}
use Rattle.cap_elf.specs.declared.records.CapReloc.{CapReloc}

-- a table: as many records as `count`, each of `size` bytes, the first at `at`
abbrev pub table : {X : Type 0} → (ℕ → X) → ℕ → ℕ → ℕ → List X
table read at size count = map (λ i. read (at + size * i)) (range_with_len 0 count)

-- Elf64_Phdr
abbrev pub segment_at : List ℕ → ℕ → Segment
segment_at bytes at = record {
  vaddr = number_at 8 bytes (at + 16);
  memsz = number_at 8 bytes (at + 40);
  offset = number_at 8 bytes (at + 8);
  filesz = number_at 8 bytes (at + 32);
  flags = number_at 4 bytes (at + 4);
  align = number_at 8 bytes (at + 48);
}

-- p_type, and the segment
unfoldable pub program_header_at : List ℕ → ℕ → ProgramHeader
program_header_at bytes at = record { kind = number_at 4 bytes at; segment = segment_at bytes at; at = at }

-- Elf64_Dyn
unfoldable pub dyn_entry_at : List ℕ → ℕ → DynEntry
dyn_entry_at bytes at = record { tag = number_at 8 bytes at; value = number_at 8 bytes (at + 8); at = at }

-- what a section index says: SHN_UNDEF, SHN_ABS, or a section
abbrev pub place_of : ℕ → Place
place_of section = if section == 0 then Undefined else if section == 0xfff1 then Absolute else Section section

-- Elf64_Sym: the upper four bits of st_info are the binding and its lower four the type; the lowest two of st_other are
-- the visibility
unfoldable pub symbol_entry_at : List ℕ → ℕ → SymbolEntry
symbol_entry_at bytes at = record {
  name = number_at 4 bytes at;
  symbol = record {
    binding = slice_index bytes (at + 4) / 16;
    kind = slice_index bytes (at + 4) % 16;
    visibility = slice_index bytes (at + 5) % 4;
    place = place_of (number_at 2 bytes (at + 6));
    value = number_at 8 bytes (at + 8);
    size = number_at 8 bytes (at + 16);
    at = at;
  };
}

-- the symbol of index 0, whatever its bytes are
abbrev pub null_symbol : ℕ → Symbol
null_symbol at = record { binding = 0; kind = 0; visibility = 0; place = Undefined; value = 0; size = 0; at = at }

-- Elf64_Rela: the upper half of r_info is the symbol and its lower half the kind
unfoldable pub reloc_at : List ℕ → ℕ → DynReloc
reloc_at bytes at = record {
  slot = number_at 8 bytes at;
  kind = number_at 4 bytes (at + 8);
  symbol = number_at 4 bytes (at + 12);
  addend = cast_signed w64 (number_at 8 bytes (at + 16));
  at = at;
}

-- an entry of `__cap_relocs`: five numbers of eight bytes
unfoldable pub cap_reloc_at : List ℕ → ℕ → CapReloc
cap_reloc_at bytes at = record {
  location = number_at 8 bytes at;
  object = number_at 8 bytes (at + 8);
  offset = number_at 8 bytes (at + 16);
  size = number_at 8 bytes (at + 24);
  permissions = number_at 8 bytes (at + 32);
  at = at;
}
