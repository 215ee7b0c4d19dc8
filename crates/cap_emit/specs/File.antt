-- The linked file: its parts in order, each at its address.
use Rattle.std.specs.Prelude.{ℕ, List, [], ◌∷◌, ◌++◌, map, filter, zip, length}
use Rattle.std.specs.List.{flat_map}
use Rattle.cap_chain.specs.Words.{built_words}
use Rattle.cap_elf.specs.declared.records.Class.{Class}
use Rattle.cap_elf.specs.declared.records.Class.TheVariants.{Ro, Code, Init, Fini, Relro, Data}
use Rattle.cap_elf.specs.Classes.{same_class}
use Rattle.cap_layout.specs.Points.{Laid}
use Rattle.cap_layout.specs.Laid.{ArePiecesOf}
use Rattle.cap_table.specs.Targets.{Named}
use Rattle.cap_table.specs.Lists.{CapTableValue, DynSymbolValue, AreListsOf}
use Rattle.cap_table.specs.Bodies.{BodiesValue, AreLong}
use Rattle.cap_emit.specs.Spread.{Chunk, spread, AreApart}
use Rattle.cap_emit.specs.Records.{field_bytes, file_header, segment_headers, symbol_bytes, rela_bytes, cap_reloc_bytes, entry_bytes}

-- each symbol with the offset of its name
abbrev pub symbols_with_offsets : CapTableValue → List (ℕ × DynSymbolValue)
symbols_with_offsets table = zip table.offsets table.symbols

-- the words of the hash table
abbrev pub hash_words : CapTableValue → List ℕ
hash_words table = built_words (map (λ s. s.name) table.symbols)

-- the pieces of a class, with their addresses and bytes
abbrev pub piece_chunks : Laid → BodiesValue → Class → List Chunk
piece_chunks laid bodies class =
    map (λ p. p.1) (filter (λ p. same_class p.0.class class) (zip laid.pieces.all (zip laid.addresses bodies.pieces)))

-- the parts: headers, tables, names and read-only pieces; stubs and code; the dynamic table, slots and what is written
-- once, up to the end of the third segment; data
abbrev pub chunks : Laid → CapTableValue → BodiesValue → ℕ → ℕ → List Chunk
chunks laid table bodies flags entry =
    let at = laid.parts in
    (
    (0, file_header flags entry)
    ∷ (64, segment_headers at (length table.dynamics))
    ∷ (at.symbols_at, flat_map symbol_bytes (symbols_with_offsets table))
    ∷ (at.relas_at, flat_map rela_bytes table.relas)
    ∷ (at.cap_relocs_at, flat_map cap_reloc_bytes table.cap_relocs)
    ∷ (at.hash_at, flat_map (field_bytes 4) (hash_words table))
    ∷ (at.names_at, table.names)
    ∷ []
    )
    ++ piece_chunks laid bodies Ro
    ++ ((at.stubs_at, bodies.stubs) ∷ [])
    ++ piece_chunks laid bodies Code
    ++ ((at.dynamic_at, flat_map entry_bytes table.dynamics) ∷ (at.slots_at, bodies.slots) ∷ [])
    ++ piece_chunks laid bodies Init
    ++ piece_chunks laid bodies Fini
    ++ piece_chunks laid bodies Relro
    ++ ((at.table_end, []) ∷ [])
    ++ piece_chunks laid bodies Data

unfoldable pub emit_of : Laid → CapTableValue → BodiesValue → ℕ → ℕ → List ℕ
emit_of laid table bodies flags entry = spread 0 (chunks laid table bodies flags entry)

-- the parts follow one another: none begins before the end of the one before
abbrev pub AreFitting : Laid → CapTableValue → BodiesValue → Type 0
AreFitting laid table bodies = (flags entry : ℕ) → AreApart 0 (chunks laid table bodies flags entry)

-- the parts of a layout of the pieces of inputs, with its own lists and bytes of these lengths, fit
abbrev pub PartsFit : Type 0
PartsFit =
    (named : Named) (laid : Laid) (table : CapTableValue) (bodies : BodiesValue)
    → ArePiecesOf named.rels named.table laid.pieces → AreListsOf named laid table → AreLong laid.pieces.all table.plan bodies → AreFitting laid table bodies
