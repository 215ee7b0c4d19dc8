-- Laying out segment by segment: the places in each, and what was placed so far.
use Rattle.std.specs.Prelude.{ℕ, max, map, fold, ◌+◌, ◌-◌, ◌*◌, Bool, not, ◌&&◌, ◌==◌, if◌then◌else◌, List, [], Result, Ok}
use Rattle.std.specs.Int.{next_multiple_of}
use Rattle.std.specs.List.{list_any}
use Rattle.cap_base.specs.Steps.{◌>>=◌, ◌>>◌, each}
use Rattle.cap_base.specs.declared.refusal.Refusal.{Refusal}
use Rattle.cap_elf.specs.declared.records.Class.{Class}
use Rattle.cap_elf.specs.declared.records.Class.TheVariants.{Ro, Code, Init, Fini, Relro, Data, Bss}
use Rattle.cap_elf.specs.Classes.{same_class}
use Rattle.cap_layout.specs.declared.piece.Piece.{Piece}
use Rattle.cap_layout.specs.declared.parts.Parts.{Parts}
use Rattle.cap_layout.specs.declared.parts.Sizes.{Sizes}
use Rattle.cap_layout.specs.declared.stages.Tables.{Tables}
use Rattle.cap_layout.specs.declared.stages.ReadOnly.{ReadOnly}
use Rattle.cap_layout.specs.declared.stages.CodePart.{CodePart}
use Rattle.cap_layout.specs.declared.stages.CallArray.{CallArray}
use Rattle.cap_layout.specs.declared.stages.Relocated.{Relocated}
use Rattle.cap_layout.specs.declared.stages.Writable.{Writable}
use Rattle.cap_layout.specs.Parts.{headers_end, hash_words_of, code_range_end, whole_alignment, parts_of, addresses_of, padded_ends}
use Rattle.cap_layout.specs.Laid.{ends_low}
use Rattle.cap_layout.specs.Running.{Placed, reached, with_class}

-- where each table begins: they follow the headers without gaps
unfoldable pub tables_of : Sizes → Tables
tables_of n =
    let relas_at = headers_end + 24 * n.symbols in
    let cap_relocs_at = relas_at + 24 * n.relas in
    let hash_at = cap_relocs_at + 40 * n.cap_relocs in
    let names_at = hash_at + 4 * hash_words_of n.symbols in
    record {
      symbols_at = headers_end;
      relas_at = relas_at;
      cap_relocs_at = cap_relocs_at;
      hash_at = hash_at;
      names_at = names_at;
      names_end = names_at + n.names;
    }

-- the ends of the headers, the tables and the names
unfoldable pub with_tables : Tables → Placed → Result Placed Refusal
with_tables t at = do
  headers ← reached at t.symbols_at
  symbols ← reached headers t.relas_at
  relas ← reached symbols t.cap_relocs_at
  cap_relocs ← reached relas t.hash_at
  words ← reached cap_relocs t.names_at
  reached words t.names_end

-- the first segment: tables, names, and data that is read alone
unfoldable pub with_read_only : List Piece → Sizes → Placed → Result (Placed × ReadOnly) Refusal
with_read_only pieces n at = do
  let t = tables_of n
  tables ← with_tables t at
  last ← with_class Ro pieces tables
  Ok (last, record { tables = t; end = last.end })

-- the second: stubs, and instructions
unfoldable pub with_code : List Piece → Sizes → Placed → Result (Placed × CodePart) Refusal
with_code pieces n at = do
  let start = next_multiple_of at.end 4096
  stubs ← reached at (start + 16 * n.stubs)
  last ← with_class Code pieces stubs
  Ok (last, record { start = start; end = last.end })

-- some piece is of the class
abbrev pub has_class : Class → List Piece → Bool
has_class class pieces = list_any (λ p. same_class p.class class) pieces

-- some piece of the class has bytes
abbrev pub has_class_bytes : Class → List Piece → Bool
has_class_bytes class pieces = list_any (λ p. same_class p.class class && not (p.size == 0)) pieces

-- where the pieces of an array follow
abbrev pub array_first : Class → List Piece → Placed → Placed
array_first class pieces at =
    if has_class class pieces then record { addresses = at.addresses; end = next_multiple_of at.end 16 } else at

-- an array of calls, whose bytes count from a multiple of 16
unfoldable pub with_array : Class → List Piece → Placed → Result (Placed × CallArray) Refusal
with_array class pieces at = do
  let start = next_multiple_of at.end 16
  last ← with_class class pieces (array_first class pieces at)
  Ok (last, record { at = start; size = if has_class_bytes class pieces then last.end - start else 0 })

-- the third: the dynamic section, slots, arrays, and data that is read alone once it is relocated. It ends with the range
-- of code
unfoldable pub with_relocated : List Piece → Sizes → Placed → Result (Placed × Relocated) Refusal
with_relocated pieces n at = do
  let start = next_multiple_of at.end 4096
  let slots_at = start + 16 * n.dynamics
  dynamics ← reached at slots_at
  slots ← reached dynamics (slots_at + 16 * n.slots)
  init ← with_array Init pieces slots
  fini ← with_array Fini pieces init.0
  relro ← with_class Relro pieces fini.0
  last ← reached relro (code_range_end relro.end)
  Ok (last, record { start = start; slots_at = slots_at; init = init.1; fini = fini.1; end = last.end })

-- the fourth: data that may be written
unfoldable pub with_writable : List Piece → Placed → Result (Placed × Writable) Refusal
with_writable pieces at = do
  filled ← with_class Data pieces at
  last ← with_class Bss pieces filled
  Ok (last, record { file_end = filled.end; mem_end = last.end })

-- the largest alignment of pieces and a page
unfoldable pub largest_of : List Piece → ℕ
largest_of pieces = fold max 4096 (map (λ p. p.align) pieces)

-- the parts of the file, by its segments
unfoldable pub parts_from : List Piece → ReadOnly → CodePart → Relocated → Writable → Parts
parts_from pieces r c t w = record {
  ro_end = r.end;
  code_start = c.start;
  code_end = c.end;
  table_start = t.start;
  table_end = t.end;
  data_start = t.end;
  file_end = w.file_end;
  mem_end = w.mem_end;
  symbols_at = r.tables.symbols_at;
  relas_at = r.tables.relas_at;
  cap_relocs_at = r.tables.cap_relocs_at;
  hash_at = r.tables.hash_at;
  names_at = r.tables.names_at;
  stubs_at = c.start;
  dynamic_at = t.start;
  slots_at = t.slots_at;
  init_at = t.init.at;
  init_size = t.init.size;
  fini_at = t.fini.at;
  fini_size = t.fini.size;
  align = whole_alignment pieces t.end;
}

-- all segments, from 0 on
unfoldable pub with_all : List Piece → Sizes → Result (Placed × Parts) Refusal
with_all pieces n = do
  read_only ← with_read_only pieces n (record { addresses = []; end = 0 })
  code ← with_code pieces n read_only.0
  relocated ← with_relocated pieces n code.0
  writable ← with_writable pieces relocated.0
  Ok (writable.0, parts_from pieces read_only.1 code.1 relocated.1 writable.1)

-- the same as the definition says it
abbrev pub all_places : List Piece → Sizes → Placed × Parts
all_places pieces n = (record { addresses = addresses_of pieces n; end = (parts_of pieces n).mem_end }, parts_of pieces n)

-- all padded ends are tried, and then the places are these
unfoldable pub placed_as : List Piece → Sizes → Result (Placed × Parts) Refusal
placed_as pieces n = each ends_low (padded_ends pieces n) >> Ok (all_places pieces n)
