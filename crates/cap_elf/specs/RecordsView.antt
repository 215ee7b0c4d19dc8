-- The records that were read, as contracts see them.
use Rattle.std.specs.Prelude.{map}
use Rattle.cap_elf.specs.declared.reading.Records.{Records}
use Rattle.cap_elf.specs.DynView.{DynRecords}

-- each Vec as a list
abbrev pub records_view : Records → DynRecords
records_view r = record {
  flags = r.flags;
  segments = r.segments.items;
  relro = r.relro;
  symbols = map (λ n. n.symbol) r.symbols;
  names = map (λ n. n.name) r.symbols;
  relocs = r.relocs.items;
  cap_relocs = r.cap_relocs.items;
  hash_words = r.hash_words.items;
  hash_at = r.hash_at;
  arrays = r.arrays;
  needed = r.needed.items;
  soname = r.soname;
  symbolic = r.symbolic;
  span = r.span;
  align = r.align;
}
