-- The stages of reading a shared object, each from what the ones before gave.
use Rattle.std.specs.Prelude.{ℕ, ◌≤◌, ◌<◌, ◌+◌, ◌*◌, ◌^◌, not, List, length, Option, ok_or, Result, Ok}
use Rattle.std.specs.List.{list_any}
use Rattle.cap_base.specs.declared.check.Check.TheVariants.{NoSegment, DynamicHeader}
use Rattle.cap_base.specs.declared.refusal.Fault.{Fault}
use Rattle.cap_elf.specs.declared.records.Segment.{Segment}
use Rattle.cap_elf.specs.declared.decode.DynEntry.{DynEntry}
use Rattle.cap_elf.specs.declared.decode.Table.{Table}
use Rattle.cap_elf.specs.declared.tables.HashPlace.{HashPlace}
use Rattle.cap_elf.specs.declared.tables.Lists.{Lists}
use Rattle.cap_elf.specs.declared.stages.Mapped.{Mapped}
use Rattle.cap_elf.specs.declared.stages.Tables.{Tables}
use Rattle.cap_base.specs.Steps.{◌>>=◌, ◌>>◌, refuse, fault}
use Rattle.cap_elf.specs.Header.{header_of}
use Rattle.cap_elf.specs.Records.{table, program_header_at}
use Rattle.cap_elf.specs.Ends.{has_memory}
use Rattle.cap_elf.specs.Segments.{headers_of, loads_of}
use Rattle.cap_elf.specs.Marks.{marks_of}
use Rattle.cap_elf.specs.Dynamic.{listed_of, used_of}
use Rattle.cap_elf.specs.Tables.{strings_of, hash_of, symbols_of, lists_of}

-- what the header and the program headers tell
pub record MappedView : Type 0 where
  pub flags : ℕ
  pub loads : List Segment
  pub relro : Option (ℕ × ℕ)
  pub dynamic : Table

-- that, as contracts see it
abbrev pub mapped_view : Mapped → MappedView
mapped_view m = record { flags = m.flags; loads = m.loads.segments.items; relro = m.relro; dynamic = m.dynamic }

-- the checks up to PT_DYNAMIC and PT_GNU_RELRO
unfoldable pub mapped_of : List ℕ → Result MappedView Fault
mapped_of bytes = do
  flags ← header_of 3 bytes
  place ← headers_of bytes
  let headers = table (program_header_at bytes) place.at 56 place.count
  loads ← loads_of (length bytes) headers
  refuse (not (list_any has_memory loads)) NoSegment 32
  marks ← marks_of loads headers
  dynamic ← ok_or marks.dynamic (fault DynamicHeader 32)
  Ok (record { flags = flags; loads = loads; relro = marks.relro; dynamic = dynamic })

-- what the dynamic table tells
pub record TablesView : Type 0 where
  pub listed : List DynEntry
  pub used : List DynEntry
  pub strings : List ℕ
  pub hash : HashPlace
  pub symbols : Table
  pub lists : Lists

-- that, as contracts see it
abbrev pub tables_view : Tables → TablesView
tables_view t = record { listed = t.listed.items; used = t.used.items; strings = t.strings.now; hash = t.hash; symbols = t.symbols; lists = t.lists }

-- the checks of the dynamic table and of where its tables stand
unfoldable pub tables_of : List ℕ → MappedView → Result TablesView Fault
tables_of bytes m = do
  listed ← listed_of bytes m.dynamic
  used ← used_of listed
  strings ← strings_of bytes m.loads used m.dynamic.at
  hash ← hash_of bytes m.loads used m.dynamic.at
  symbols ← symbols_of m.loads used hash.symbols m.dynamic.at
  lists ← lists_of m.loads used m.dynamic.at
  Ok (record { listed = listed; used = used; strings = strings; hash = hash; symbols = symbols; lists = lists })

-- the tables lie in a file of this length
pub record AreInside (file_len : ℕ) (t : Tables) : Type 0 where
  pub hash : t.hash.words.at + 4 * t.hash.words.count ≤ file_len
  pub symbols : t.symbols.at + 24 * t.symbols.count ≤ file_len
  pub some_symbol : 0 < t.symbols.count
  pub few_symbols : t.symbols.count ≤ 2 ^ 20
  pub relocs : t.lists.relocs.at + 24 * t.lists.relocs.count ≤ file_len
  pub jumps : t.lists.jumps.at + 24 * t.lists.jumps.count ≤ file_len
  pub cap_relocs : t.lists.cap_relocs.at + 40 * t.lists.cap_relocs.count ≤ file_len
