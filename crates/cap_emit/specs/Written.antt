-- What is written so far, and what is written next.
use Rattle.std.specs.Prelude.{ℕ, ◌-◌, if◌then◌else◌, List, [], ◌∷◌, ◌++◌, map, filter, zip, length, drop}
use Rattle.std.specs.List.{flat_map}
use Rattle.cap_elf.specs.declared.records.Class.{Class}
use Rattle.cap_elf.specs.declared.records.Class.TheVariants.{Code, Init, Fini, Relro}
use Rattle.cap_elf.specs.Classes.{same_class}
use Rattle.cap_layout.specs.declared.parts.Parts.{Parts}
use Rattle.cap_layout.specs.Points.{Laid, address_of}
use Rattle.cap_layout.specs.Pieces.{piece_of}
use Rattle.cap_table.specs.Lists.{CapTableValue}
use Rattle.cap_table.specs.Bodies.{BodiesValue, zeros, piece_bytes}
use Rattle.cap_emit.specs.Spread.{Chunk}
use Rattle.cap_emit.specs.Records.{field_bytes, segment_headers, symbol_bytes, rela_bytes, cap_reloc_bytes, entry_bytes}
use Rattle.cap_emit.specs.File.{symbols_with_offsets, hash_words, piece_chunks}

-- the file, with zeros up to an address
unfoldable pub padded : List ℕ → ℕ → List ℕ
padded file at = file ++ zeros (at - length file)

-- the file with one more chunk, and with more of them
abbrev pub with_chunk : List ℕ → Chunk → List ℕ
with_chunk file c = padded file c.0 ++ c.1

abbrev pub with_chunks : List ℕ → List Chunk → List ℕ
with_chunks file [] = file
with_chunks file (c ∷ cs) = with_chunks (with_chunk file c) cs

-- the tables
unfoldable pub symbol_table : CapTableValue → List ℕ
symbol_table table = flat_map symbol_bytes (symbols_with_offsets table)

unfoldable pub rela_table : CapTableValue → List ℕ
rela_table table = flat_map rela_bytes table.relas

unfoldable pub cap_reloc_table : CapTableValue → List ℕ
cap_reloc_table table = flat_map cap_reloc_bytes table.cap_relocs

unfoldable pub hash_table : CapTableValue → List ℕ
hash_table table = flat_map (field_bytes 4) (hash_words table)

unfoldable pub dynamic_table : CapTableValue → List ℕ
dynamic_table table = flat_map entry_bytes table.dynamics

-- the piece of a number as a chunk, if it is of the class
unfoldable pub piece_chunk : Laid → BodiesValue → Class → ℕ → List Chunk
piece_chunk laid bodies class i =
    if same_class (piece_of laid.pieces.all i).class class then (address_of laid i, piece_bytes bodies.pieces i) ∷ [] else []

-- the chunks of a class among the pieces from the i-th on
unfoldable pub chunks_from : Laid → BodiesValue → Class → ℕ → List Chunk
chunks_from laid bodies class i =
    map (λ p. p.1) (filter (λ p. same_class p.0.class class) (drop i (zip laid.pieces.all (zip laid.addresses bodies.pieces))))

-- all chunks of a class
unfoldable pub class_chunks : Laid → BodiesValue → Class → List Chunk
class_chunks laid bodies class = piece_chunks laid bodies class

-- the file with the tables of the first segment, behind its header
unfoldable pub with_tables : List ℕ → Parts → CapTableValue → List ℕ
with_tables file at table =
    with_chunks file ((64, segment_headers at (length table.dynamics))
    ∷ (at.symbols_at, symbol_table table)
    ∷ (at.relas_at, rela_table table)
    ∷ (at.cap_relocs_at, cap_reloc_table table)
    ∷ (at.hash_at, hash_table table)
    ∷ (at.names_at, table.names)
    ∷ [])

-- with the stubs and the code
abbrev pub with_code : List ℕ → Laid → BodiesValue → List ℕ
with_code file laid bodies = with_chunks file ((laid.parts.stubs_at, bodies.stubs) ∷ class_chunks laid bodies Code)

-- with the dynamic table, the slots, the calls, and the data that is written once
abbrev pub with_once_written : List ℕ → Laid → CapTableValue → BodiesValue → List ℕ
with_once_written file laid table bodies =
    let tables = with_chunks file ((laid.parts.dynamic_at, dynamic_table table) ∷ (laid.parts.slots_at, bodies.slots) ∷ []) in
    let calls = with_chunks (with_chunks tables (class_chunks laid bodies Init)) (class_chunks laid bodies Fini) in
    with_chunks calls (class_chunks laid bodies Relro)
