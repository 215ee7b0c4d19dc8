-- The whole file, from its parts.
use Rattle.std.proofs.Common.{◌≡◌, ℕ, ◌+◌, ◌*◌, ◌≤◌, List, [], ◌∷◌, ◌++◌, length, refl, sym, ap, ◌∙◌, subst, arith, length-append, append-nil}
use Rattle.std.specs.List.{flat_map}
use Rattle.cap_elf.specs.declared.records.Class.TheVariants.{Ro, Code, Init, Fini, Relro, Data}
use Rattle.cap_layout.specs.Points.{Laid}
use Rattle.cap_table.specs.declared.records.DynEntry.{DynEntry}
use Rattle.cap_table.specs.Lists.{CapTableValue}
use Rattle.cap_table.specs.Bodies.{BodiesValue}
use Rattle.cap_emit.specs.Spread.{Chunk, AreApart, spread_end}
use Rattle.cap_emit.specs.Records.{field_bytes, file_header, segment_headers, entry_bytes}
use Rattle.cap_emit.specs.File.{chunks, emit_of, AreFitting}
use Rattle.cap_emit.specs.Written.{padded, with_chunk, with_chunks, symbol_table, rela_table, cap_reloc_table, hash_table, dynamic_table, class_chunks, with_tables, with_code, with_once_written}
use Rattle.cap_emit.proofs.Chunks.{with_append, written_spread}

-- the headers and the tables of the first segment
headers_and_tables : Laid → CapTableValue → ℕ → ℕ → List Chunk
headers_and_tables laid table flags entry =
    let at = laid.parts in
    (0, file_header flags entry)
    ∷ (64, segment_headers at (length table.dynamics))
    ∷ (at.symbols_at, symbol_table table)
    ∷ (at.relas_at, rela_table table)
    ∷ (at.cap_relocs_at, cap_reloc_table table)
    ∷ (at.hash_at, hash_table table)
    ∷ (at.names_at, table.names)
    ∷ []

-- the stubs; the dynamic table and the slots; the end of the third segment
stubs_chunk : Laid → BodiesValue → List Chunk
stubs_chunk laid bodies = (laid.parts.stubs_at, bodies.stubs) ∷ []

slots_chunks : Laid → CapTableValue → BodiesValue → List Chunk
slots_chunks laid table bodies = (laid.parts.dynamic_at, dynamic_table table) ∷ (laid.parts.slots_at, bodies.slots) ∷ []

end_chunk : Laid → List Chunk
end_chunk laid = (laid.parts.table_end, []) ∷ []

up_to_slots : Laid → CapTableValue → BodiesValue → ℕ → ℕ → List Chunk
up_to_slots laid table bodies flags entry =
    headers_and_tables laid table flags entry ++ class_chunks laid bodies Ro ++ stubs_chunk laid bodies ++ class_chunks laid bodies Code ++ slots_chunks laid table bodies

chunks_are : (laid : Laid) (table : CapTableValue) (bodies : BodiesValue) (flags entry : ℕ) →
    chunks laid table bodies flags entry ≡ up_to_slots laid table bodies flags entry ++ class_chunks laid bodies Init ++ class_chunks laid bodies Fini ++ class_chunks laid bodies Relro ++ end_chunk laid ++ class_chunks laid bodies Data
unfolding symbol_table rela_table cap_reloc_table hash_table dynamic_table class_chunks headers_and_tables stubs_chunk slots_chunks end_chunk up_to_slots
chunks_are laid table bodies flags entry = refl

tables_are : (laid : Laid) (table : CapTableValue) (flags entry : ℕ) → with_chunks [] (headers_and_tables laid table flags entry) ≡ with_tables (file_header flags entry) laid.parts table
unfolding padded headers_and_tables with_tables
tables_are laid table flags entry = refl

-- chunks behind those that are written
behind : (file middle end : List ℕ) (cs ds : List Chunk) → with_chunks file cs ≡ middle → with_chunks middle ds ≡ end → with_chunks file (cs ++ ds) ≡ end
behind file middle end cs ds a b = with_append file cs ds ∙ ap (λ f. with_chunks f ds) a ∙ b

-- up to the slots, of which the pieces of code end at i
slots_written : (laid : Laid) (table : CapTableValue) (bodies : BodiesValue) (flags entry : ℕ) (g h i : List ℕ) → g ≡ with_tables (file_header flags entry) laid.parts table → h ≡ with_chunks g (class_chunks laid bodies Ro) → i ≡ with_code h laid bodies → with_chunks [] (up_to_slots laid table bodies flags entry) ≡ with_chunks i (slots_chunks laid table bodies)
unfolding up_to_slots stubs_chunk
slots_written laid table bodies flags entry g h i eg eh ei =
    let tables = headers_and_tables laid table flags entry in
    let ro = class_chunks laid bodies Ro in
    let stubs = stubs_chunk laid bodies in
    let code = class_chunks laid bodies Code in
    let slots = slots_chunks laid table bodies in
    let at_ro = behind [] g h tables ro (tables_are laid table flags entry ∙ sym eg) (sym eh) in
    let at_stubs = behind [] h (with_chunk h (laid.parts.stubs_at, bodies.stubs)) (tables ++ ro) stubs at_ro refl in
    let at_code = behind [] (with_chunk h (laid.parts.stubs_at, bodies.stubs)) i (tables ++ ro ++ stubs) code at_stubs (sym ei) in
    behind [] i (with_chunks i slots) (tables ++ ro ++ stubs ++ code) slots at_code refl

-- the parts written one after the other are the file
pub emitted : (laid : Laid) (table : CapTableValue) (bodies : BodiesValue) (flags entry : ℕ) (f g h i j k : List ℕ) → AreFitting laid table bodies → f ≡ file_header flags entry → g ≡ with_tables f laid.parts table → h ≡ with_chunks g (class_chunks laid bodies Ro) → i ≡ with_code h laid bodies → j ≡ with_once_written i laid table bodies → k ≡ with_chunks (padded j laid.parts.table_end) (class_chunks laid bodies Data) → k ≡ emit_of laid table bodies flags entry
unfolding emit_of slots_chunks end_chunk
emitted laid table bodies flags entry f g h i j k fitting ef eg eh ei ej ek =
    let first = up_to_slots laid table bodies flags entry in
    let init = class_chunks laid bodies Init in
    let fini = class_chunks laid bodies Fini in
    let relro = class_chunks laid bodies Relro in
    let written = class_chunks laid bodies Data in
    let tables = with_chunks i (slots_chunks laid table bodies) in
    let calls = with_chunks tables init in
    let all_calls = with_chunks calls fini in
    let filled = padded j laid.parts.table_end in
    let at_slots = slots_written laid table bodies flags entry g h i (eg ∙ ap (λ x. with_tables x laid.parts table) ef) eh ei in
    let at_init = behind [] tables calls first init at_slots refl in
    let at_fini = behind [] calls all_calls (first ++ init) fini at_init refl in
    let at_relro = behind [] all_calls j (first ++ init ++ fini) relro at_fini (sym ej) in
    let at_end = behind [] j filled (first ++ init ++ fini ++ relro) (end_chunk laid) at_relro (append-nil filled) in
    let at_data = behind [] filled k (first ++ init ++ fini ++ relro ++ end_chunk laid) written at_end (sym ek) in
    let whole : with_chunks [] (chunks laid table bodies flags entry) ≡ k = ap (with_chunks []) (chunks_are laid table bodies flags entry) ∙ at_data in
    sym whole ∙ written_spread [] 0 (chunks laid table bodies flags entry) refl (fitting flags entry)

-- chunks before others, and behind them
apart_front : (at : ℕ) (cs ds : List Chunk) → AreApart at (cs ++ ds) → AreApart at cs
apart_front at [] ds h = tt
apart_front at (c ∷ cs) ds h = (h.0, apart_front (c.0 + length c.1) cs ds h.1)

apart_back : (at : ℕ) (cs ds : List Chunk) → AreApart at (cs ++ ds) → AreApart (spread_end at cs) ds
apart_back at [] ds h = h
apart_back at (c ∷ cs) ds h = apart_back (c.0 + length c.1) cs ds h.1

length_entries : (es : List DynEntry) → length (flat_map entry_bytes es) ≡ 16 * length es
unfolding entry_bytes field_bytes
length_entries [] = refl
length_entries (e ∷ es) = omega (arith, length-append (entry_bytes e) (flat_map entry_bytes es), length_entries es)

-- the dynamic table ends before the slots
pub dynamics_fit : (laid : Laid) (table : CapTableValue) (bodies : BodiesValue) → AreFitting laid table bodies → laid.parts.dynamic_at + 16 * length table.dynamics ≤ laid.parts.slots_at
unfolding dynamic_table slots_chunks up_to_slots
dynamics_fit laid table bodies fitting =
    let first = up_to_slots laid table bodies 0 0 in
    let init = class_chunks laid bodies Init in
    let fini = class_chunks laid bodies Fini in
    let relro = class_chunks laid bodies Relro in
    let all = subst (AreApart 0) (chunks_are laid table bodies 0 0) (fitting 0 0) in
    let to_end = apart_front 0 (first ++ init ++ fini ++ relro ++ end_chunk laid) (class_chunks laid bodies Data) all in
    let to_relro = apart_front 0 (first ++ init ++ fini ++ relro) (end_chunk laid) to_end in
    let to_fini = apart_front 0 (first ++ init ++ fini) relro to_relro in
    let to_init = apart_front 0 (first ++ init) fini to_fini in
    let to_slots = apart_front 0 first init to_init in
    let before = headers_and_tables laid table 0 0 ++ class_chunks laid bodies Ro ++ stubs_chunk laid bodies ++ class_chunks laid bodies Code in
    let slots = apart_back 0 before (slots_chunks laid table bodies) to_slots in
    omega (arith, slots.1.0, length_entries table.dynamics)
