-- The file of a link is the file of its plan.
use Rattle.std.proofs.Common.{◌≡◌, ℕ, ◌+◌, ◌-◌, ◌*◌, ◌^◌, ◌<◌, ◌≤◌, List, [], ◌∷◌, ◌++◌, length, map, replicate, refl, sym, ap, ◌∙◌, arith, append_assoc}
use Rattle.std.specs.Prelude.{zip}
use Rattle.std.specs.List.{flat_map, AllByRecursion}
use Rattle.cap_base.specs.Field.{number_bytes}
use Rattle.cap_elf.specs.declared.records.CapReloc.{CapReloc}
use Rattle.cap_elf.specs.declared.records.DynReloc.{DynReloc}
use Rattle.cap_elf.specs.declared.records.Class.TheVariants.{Ro, Code, Init, Fini, Relro, Data}
use Rattle.cap_layout.specs.declared.parts.Parts.{Parts}
use Rattle.cap_layout.specs.Parts.{parts_of, slots_end, init_end}
use Rattle.cap_table.specs.declared.records.DynEntry.{DynEntry}
use Rattle.cap_table.specs.Bodies.{zeros}
use Rattle.cap_table.specs.Lists.{DynSymbolValue, null_dyn_symbol, name_offsets}
use Rattle.cap_emit.specs.Spread.{Chunk}
use Rattle.cap_emit.specs.Spread.{spread as emit_spread}
use Rattle.cap_emit.specs.Records.{field_bytes, ident, sizes_header, file_header, segment_header, segment_headers, symbol_info, rela_bytes, cap_reloc_bytes}
use Rattle.cap_emit.specs.Records.{symbol_bytes as emit_symbol_bytes, entry_bytes as emit_entry_bytes}
use Rattle.cap_emit.specs.File.{chunks, emit_of, hash_words, piece_chunks, symbols_with_offsets}
use Rattle.cap_readback.specs.Stands.{fields}
use Rattle.cap_readback.specs.Spread.{spread}
use Rattle.cap_readback.specs.Written.{header_fields, segment_bytes, headers_of_file}
use Rattle.cap_readback.specs.Lists.{entry_bytes}
use Rattle.cap_readback.specs.Content.{symbol_bytes, reloc_bytes, cap_bytes, word_bytes}
use Rattle.cap_readback.specs.View.{strings, dynamics, words}
use Rattle.cap_readback.specs.Layout.{pieces_at}
use Rattle.cap_readback.specs.Layout.{slots_end as filled_slots_end, init_end as filled_init_end, fini_end as filled_fini_end, array_start as filled_array_start}
use Rattle.cap_readback.specs.Law.{IsSymbol, file_of}
use Rattle.cap_readback.specs.Forms.{symbol_bytes_of}
use Rattle.cap_readback.proofs.Forms.{symbol-form, rela-form}
use Rattle.cap_link.specs.Linked.{Linked, file_of_link}
use Rattle.cap_link.specs.Content.{planned_symbol, planned_from, names_of_symbols, named_symbols, string_names, content_of, pieces_by_class}
use Rattle.cap_link.proofs.Made.{AreListed, AreSized, IsLaidOut}
use Rattle.cap_link.proofs.Naming.{terminated-is}
use Rattle.cap_link.proofs.Viewing.{words-are}
use Rattle.cap_link.proofs.Dynamics.{pair_of, dynamics-are}
use Rattle.cap_link.proofs.Placing.{chunks-are}
use Rattle.cap_link.proofs.Segmented.{ro_from, code_from, init_from, fini_from, relro_from, AreOrdered}
use Rattle.cap_link.proofs.Planning.{length-map, array-start-at, ends-are}

spread-is : (at : ℕ) (cs : List Chunk) → emit_spread at cs ≡ spread at cs
spread-is at [] = refl
spread-is at (c ∷ cs) =
    append_assoc (zeros (c.0 - at)) c.1 (emit_spread (c.0 + length c.1) cs) ∙ ap (λ (r : List ℕ). zeros (c.0 - at) ++ (c.1 ++ r)) (spread-is (c.0 + length c.1) cs)

two-equal : {a b c d : List ℕ} → a ≡ b → c ≡ d → a ++ c ≡ b ++ d
two-equal x y = cc

symbol-bytes : (at : ℕ) (s : DynSymbolValue) → s.kind ≤ 5 → s.binding ≤ 2 → emit_symbol_bytes (at, s) ≡ symbol_bytes_of (planned_symbol at s)
unfolding emit_symbol_bytes field_bytes
symbol-bytes at s kind binding =
    let info : symbol_info s.binding s.kind ≡ s.binding * 16 + s.kind = omega (arith, kind, binding) in
    ap (λ (x : ℕ). number_bytes 4 at ++ x ∷ s.visibility ∷ [] ++ number_bytes 2 s.section ++ number_bytes 8 s.value ++ number_bytes 8 s.size) info

symbols-bytes : (at : ℕ) (ss : List DynSymbolValue) → AllByRecursion IsSymbol (planned_from at ss) → flat_map emit_symbol_bytes (zip (name_offsets at (names_of_symbols ss)) ss) ≡ flat_map symbol_bytes (planned_from at ss)
symbols-bytes at [] h = refl
symbols-bytes at (s ∷ ss) h =
    let info : s.binding * 16 + s.kind < 256 = omega (arith, h.0.kind, h.0.binding) in
    let other : s.visibility < 256 = omega (arith, h.0.visibility) in
    two-equal (symbol-bytes at s h.0.kind h.0.binding ∙ symbol-form (planned_symbol at s) info other) (symbols-bytes (at + length s.name + 1) ss h.1)

null-bytes : emit_symbol_bytes (0, null_dyn_symbol) ≡ replicate 24 0
unfolding emit_symbol_bytes field_bytes
null-bytes = refl

abbrev pub HasKind : DynReloc → Type 0
HasKind r = r.kind < 2 ^ 32

relas-bytes : (rs : List DynReloc) → AllByRecursion HasKind rs → flat_map rela_bytes rs ≡ flat_map reloc_bytes rs
unfolding rela_bytes field_bytes
relas-bytes [] h = refl
relas-bytes (r ∷ rs) h = two-equal (rela-form r h.0) (relas-bytes rs h.1)

caps-bytes : (cs : List CapReloc) → flat_map cap_reloc_bytes cs ≡ flat_map cap_bytes cs
unfolding cap_reloc_bytes field_bytes
caps-bytes cs = refl

words-bytes : (ws : List ℕ) → flat_map (field_bytes 4) ws ≡ flat_map word_bytes ws
unfolding field_bytes
words-bytes ws = refl

entries-bytes : (ds : List DynEntry) → flat_map emit_entry_bytes ds ≡ flat_map entry_bytes (map pair_of ds)
unfolding emit_entry_bytes field_bytes
entries-bytes [] = refl
entries-bytes (d ∷ ds) = ap (λ (r : List ℕ). emit_entry_bytes d ++ r) (entries-bytes ds)

header-bytes : (flags entry : ℕ) → file_header flags entry ≡ fields (header_fields flags entry)
unfolding file_header ident sizes_header field_bytes
header-bytes flags entry = refl

segments-bytes : (at : Parts) (count : ℕ) → segment_headers at count ≡ flat_map segment_bytes (headers_of_file at count)
unfolding segment_headers segment_header field_bytes
segments-bytes at count = refl

abbrev pub chunk_at : ℕ → List ℕ → Chunk
chunk_at at bytes = (at, bytes)

-- ---- the chunks in order
nested : (h ro s code d i f r t w : List Chunk) → ((((((((h ++ ro) ++ s) ++ code) ++ d) ++ i) ++ f) ++ r) ++ t) ++ w ≡ h ++ (ro ++ (s ++ (code ++ (d ++ ((i ++ (f ++ r)) ++ (t ++ w))))))
nested h ro s code d i f r t w = simp append_assoc refl

tables-equal : {a1 a2 a3 a4 a5 a6 a7 b1 b2 b3 b4 b5 b6 b7 : Chunk} {x y : List Chunk} → a1 ≡ b1 → a2 ≡ b2 → a3 ≡ b3 → a4 ≡ b4 → a5 ≡ b5 → a6 ≡ b6 → a7 ≡ b7 → x ≡ y → a1 ∷ a2 ∷ a3 ∷ a4 ∷ a5 ∷ a6 ∷ a7 ∷ x ≡ b1 ∷ b2 ∷ b3 ∷ b4 ∷ b5 ∷ b6 ∷ b7 ∷ y
tables-equal e1 e2 e3 e4 e5 e6 e7 e8 = cc

rest-equal : {ro code init fini relro written ro2 code2 init2 fini2 relro2 written2 : List Chunk} {entries entries2 : Chunk} (stubs slots end : Chunk) → ro ≡ ro2 → code ≡ code2 → entries ≡ entries2 → init ≡ init2 → fini ≡ fini2 → relro ≡ relro2 → written ≡ written2
    → ro ++ (stubs ∷ (code ++ (entries ∷ slots ∷ ((init ++ (fini ++ relro)) ++ (end ∷ written))))) ≡ ro2 ++ (stubs ∷ (code2 ++ (entries2 ∷ slots ∷ ((init2 ++ (fini2 ++ relro2)) ++ (end ∷ written2)))))
rest-equal stubs slots end e1 e2 e3 e4 e5 e6 e7 = cc

pub file-is : (l : Linked) → AreListed l → AreSized l → IsLaidOut l → length l.bodies.pieces ≡ length l.laid.pieces.all
    → AreOrdered l.laid.pieces.all l.lists.plan.sizes l.laid.addresses → AllByRecursion IsSymbol (planned_from 1 (named_symbols l)) → AllByRecursion HasKind l.lists.relas
    → file_of_link l ≡ file_of (content_of l) (pieces_by_class l)
unfolding emit_of content_of pieces_by_class
file-is l h s laid count ordered symbols relas =
    let ps = l.laid.pieces.all in
    let n = l.lists.plan.sizes in
    let bs = l.bodies.pieces in
    let at = parts_of ps n in
    let c = content_of l in
    let p = pieces_by_class l in
    let e = ends-are l s laid count in
    let dyns : map pair_of l.lists.dynamics ≡ dynamics c = dynamics-are l h s in
    let dyn_count : length l.lists.dynamics ≡ length (dynamics c) = sym (length-map pair_of l.lists.dynamics) ∙ ap length dyns in
    let segments : segment_headers l.laid.parts (length l.lists.dynamics) ≡ flat_map segment_bytes (headers_of_file l.laid.parts (length (dynamics c))) =
    segments-bytes l.laid.parts (length l.lists.dynamics) ∙ ap (λ (k : ℕ). flat_map segment_bytes (headers_of_file l.laid.parts k)) dyn_count in
    let zipped : symbols_with_offsets l.lists ≡ (0, null_dyn_symbol) ∷ zip (name_offsets 1 (names_of_symbols (named_symbols l))) (named_symbols l) =
    ap (λ (os : List ℕ). zip os l.lists.symbols) h.offsets ∙ ap (λ (xs : List DynSymbolValue). zip (0 ∷ name_offsets 1 (names_of_symbols (named_symbols l))) xs) h.symbols in
    let symbol_chunk : flat_map emit_symbol_bytes (symbols_with_offsets l.lists) ≡ replicate 24 0 ++ flat_map symbol_bytes (planned_from 1 (named_symbols l)) =
    ap (flat_map emit_symbol_bytes) zipped ∙ two-equal null-bytes (symbols-bytes 1 (named_symbols l) symbols) in
    let rela_chunk : flat_map rela_bytes l.lists.relas ≡ flat_map reloc_bytes l.lists.relas = relas-bytes l.lists.relas relas in
    let cap_chunk : flat_map cap_reloc_bytes l.lists.cap_relocs ≡ flat_map cap_bytes l.lists.cap_relocs = caps-bytes l.lists.cap_relocs in
    let hash_chunk : flat_map (field_bytes 4) (hash_words l.lists) ≡ flat_map word_bytes (words c) = words-bytes (hash_words l.lists) ∙ ap (flat_map word_bytes) (sym (words-are l h)) in
    let name_chunk : l.lists.names ≡ strings c = h.names ∙ ap (λ (bytes : List ℕ). 0 ∷ bytes) (terminated-is (string_names l)) in
    let entry_chunk : flat_map emit_entry_bytes l.lists.dynamics ≡ flat_map entry_bytes (dynamics c) = entries-bytes l.lists.dynamics ∙ ap (flat_map entry_bytes) dyns in
    let ro : piece_chunks l.laid l.bodies Ro ≡ pieces_at (l.laid.parts.names_at + length (strings c)) p.ro =
    chunks-are Ro (ro_from ps n) ps l.laid.addresses bs ordered.ro ∙ ap (λ (k : ℕ). pieces_at k p.ro) e.names in
    let code : piece_chunks l.laid l.bodies Code ≡ pieces_at (l.laid.parts.stubs_at + length l.bodies.stubs) p.code =
    chunks-are Code (code_from ps n) ps l.laid.addresses bs ordered.code ∙ ap (λ (k : ℕ). pieces_at k p.code) e.stubs in
    let init : piece_chunks l.laid l.bodies Init ≡ pieces_at (filled_array_start (filled_slots_end c p) p.init) p.init =
    chunks-are Init (init_from ps n) ps l.laid.addresses bs ordered.init ∙ ap (λ (k : ℕ). pieces_at k p.init) (array-start-at Init (slots_end at n) (filled_slots_end c p) ps bs e.slots count) in
    let fini : piece_chunks l.laid l.bodies Fini ≡ pieces_at (filled_array_start (filled_init_end c p) p.fini) p.fini =
    chunks-are Fini (fini_from ps n) ps l.laid.addresses bs ordered.fini ∙ ap (λ (k : ℕ). pieces_at k p.fini) (array-start-at Fini (init_end ps at n) (filled_init_end c p) ps bs e.init count) in
    let relro : piece_chunks l.laid l.bodies Relro ≡ pieces_at (filled_fini_end c p) p.relro =
    chunks-are Relro (relro_from ps n) ps l.laid.addresses bs ordered.relro ∙ ap (λ (k : ℕ). pieces_at k p.relro) e.fini in
    let written : piece_chunks l.laid l.bodies Data ≡ pieces_at l.laid.parts.table_end p.written =
    chunks-are Data at.data_start ps l.laid.addresses bs ordered.data_pieces ∙ ap (λ (k : ℕ). pieces_at k p.written) (sym (ap (λ (q : Parts). q.table_end) laid.parts)) in
    let tables : List Chunk = (0, file_header l.flags l.entry) ∷ (64, segment_headers l.laid.parts (length l.lists.dynamics)) ∷ (l.laid.parts.symbols_at, flat_map emit_symbol_bytes (symbols_with_offsets l.lists)) ∷ (l.laid.parts.relas_at, flat_map rela_bytes l.lists.relas)
    ∷ (l.laid.parts.cap_relocs_at, flat_map cap_reloc_bytes l.lists.cap_relocs) ∷ (l.laid.parts.hash_at, flat_map (field_bytes 4) (hash_words l.lists)) ∷ (l.laid.parts.names_at, l.lists.names) ∷ [] in
    let stubs_chunk : Chunk = (l.laid.parts.stubs_at, l.bodies.stubs) in
    let slots_chunk : Chunk = (l.laid.parts.slots_at, l.bodies.slots) in
    let end_chunk : Chunk = (l.laid.parts.table_end, []) in
    spread-is 0 (chunks l.laid l.lists l.bodies l.flags l.entry) ∙ ap (spread 0) (
    nested tables (piece_chunks l.laid l.bodies Ro) (stubs_chunk ∷ []) (piece_chunks l.laid l.bodies Code) ((l.laid.parts.dynamic_at, flat_map emit_entry_bytes l.lists.dynamics) ∷ slots_chunk ∷ [])
    (piece_chunks l.laid l.bodies Init) (piece_chunks l.laid l.bodies Fini) (piece_chunks l.laid l.bodies Relro) (end_chunk ∷ []) (piece_chunks l.laid l.bodies Data)
    ∙ tables-equal
    (ap (chunk_at 0) (header-bytes l.flags l.entry))
    (ap (chunk_at 64) segments)
    (ap (chunk_at l.laid.parts.symbols_at) symbol_chunk)
    (ap (chunk_at l.laid.parts.relas_at) rela_chunk)
    (ap (chunk_at l.laid.parts.cap_relocs_at) cap_chunk)
    (ap (chunk_at l.laid.parts.hash_at) hash_chunk)
    (ap (chunk_at l.laid.parts.names_at) name_chunk)
    (rest-equal stubs_chunk slots_chunk end_chunk ro code (ap (chunk_at l.laid.parts.dynamic_at) entry_chunk) init fini relro written))
