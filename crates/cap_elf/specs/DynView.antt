-- What a shared object's bytes are: the records, or the first check that fails.
use Rattle.std.specs.Prelude.{ℕ, max, Bool, List, map, fold, Option, Result, Ok}
use Rattle.std.specs.Int.{next_multiple_of}
use Rattle.cap_base.specs.Field.{number_at}
use Rattle.cap_base.specs.declared.refusal.Fault.{Fault}
use Rattle.cap_elf.specs.declared.records.Segment.{Segment}
use Rattle.cap_elf.specs.declared.records.Symbol.{Symbol}
use Rattle.cap_elf.specs.declared.records.DynReloc.{DynReloc}
use Rattle.cap_elf.specs.declared.records.CapReloc.{CapReloc}
use Rattle.cap_elf.specs.declared.records.Arrays.{Arrays}
use Rattle.cap_base.specs.Steps.{◌>>=◌, ◌>>◌}
use Rattle.cap_elf.specs.Records.{table, cap_reloc_at}
use Rattle.cap_elf.specs.Ends.{highest_end}
use Rattle.cap_elf.specs.Dynamic.{is_symbolic}
use Rattle.cap_elf.specs.Symbols.{named_in}
use Rattle.cap_elf.specs.Relocs.{relocs_in, symbols_fit}
use Rattle.cap_elf.specs.FileNames.{names_of}
use Rattle.cap_elf.specs.Arrays.{arrays_of}
use Rattle.cap_elf.specs.Stages.{mapped_of, tables_of}

-- the records of a shared object. The names are those of the symbols, by their indices; the relocations are those of
-- DT_RELA, and then those of DT_JMPREL
pub record DynRecords : Type 0 where
  pub flags : ℕ
  pub segments : List Segment
  pub relro : Option (ℕ × ℕ)
  pub symbols : List Symbol
  pub names : List (List ℕ)
  pub relocs : List DynReloc
  pub cap_relocs : List CapReloc
  pub hash_words : List ℕ
  pub hash_at : ℕ
  pub arrays : Arrays
  pub needed : List (List ℕ)
  pub soname : Option (List ℕ)
  pub symbolic : Bool
  pub span : ℕ
  pub align : ℕ

-- a shared object that was read: the number of its file, and its records
pub record DynValue : Type 0 where
  pub number : ℕ
  pub records : DynRecords

-- the highest end of a segment, rounded up to whole pages
abbrev pub span_of : List Segment → ℕ
span_of loads = next_multiple_of (highest_end loads) 4096

-- the highest alignment of a segment, a page at least
abbrev pub align_of : List Segment → ℕ
align_of loads = fold (λ align s. max align s.align) 4096 loads

-- the stages in the order of the checks
unfoldable pub dyn_view : List ℕ → Result DynRecords Fault
dyn_view bytes = do
  m ← mapped_of bytes
  t ← tables_of bytes m
  names ← names_of t.strings t.listed
  arrays ← arrays_of m.loads t.used m.dynamic.at
  named ← named_in bytes t.strings t.symbols
  let relocs = relocs_in bytes t.lists
  symbols_fit t.symbols.count relocs
  Ok (record {
    flags = m.flags;
    segments = m.loads;
    relro = m.relro;
    symbols = map (λ n. n.symbol) named;
    names = map (λ n. n.name) named;
    relocs = relocs;
    cap_relocs = table (cap_reloc_at bytes) t.lists.cap_relocs.at 40 t.lists.cap_relocs.count;
    hash_words = table (number_at 4 bytes) t.hash.words.at 4 t.hash.words.count;
    hash_at = t.hash.words.at;
    arrays = arrays;
    needed = names.needed;
    soname = names.soname;
    symbolic = is_symbolic t.listed t.used;
    span = span_of m.loads;
    align = align_of m.loads;
  })
