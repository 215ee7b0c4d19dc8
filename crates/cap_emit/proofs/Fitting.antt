-- The parts of a layout fit.
use Rattle.std.proofs.Common.{◌≡◌, ℕ, ◌+◌, ◌*◌, ◌≤◌, Bool, true, false, if◌then◌else◌, nat_lt, List, [], ◌∷◌, ◌++◌, length, refl, sym, ap, ◌∙◌, subst, arith, append_assoc, append-nil}
use Rattle.std.specs.List.{flat_map, zip}
use Rattle.std.specs.Int.{next_multiple_of}
use Rattle.cap_conc.specs.Computed.{representable_length, grain_of}
use Rattle.cap_elf.specs.declared.records.Class.{Class}
use Rattle.cap_elf.specs.declared.records.Class.TheVariants.{Ro, Code, Init, Fini, Relro, Data, Bss}
use Rattle.cap_elf.specs.Classes.{same_class}
use Rattle.cap_elf.specs.RelObject.{RelObject}
use Rattle.cap_layout.specs.declared.piece.Piece.{Piece}
use Rattle.cap_layout.specs.declared.parts.Parts.{Parts}
use Rattle.cap_layout.specs.declared.parts.Sizes.{Sizes}
use Rattle.cap_layout.specs.Pieces.{PieceList}
use Rattle.cap_layout.specs.Places.{addresses, last_end, of_class}
use Rattle.cap_layout.specs.Parts.{parts_of, addresses_of, names_end, stubs_end, slots_end, init_end, fini_end, array_start, code_range_end}
use Rattle.cap_layout.specs.Laid.{laid_as}
use Rattle.cap_table.specs.Lists.{CapTableValue}
use Rattle.cap_table.specs.Bodies.{BodiesValue}
use Rattle.cap_emit.specs.Spread.{Chunk, AreApart}
use Rattle.cap_emit.specs.Records.{field_bytes, file_header, segment_headers, symbol_bytes, rela_bytes, cap_reloc_bytes, entry_bytes}
use Rattle.cap_emit.specs.File.{symbols_with_offsets, hash_words, piece_chunks, chunks}
use Rattle.cap_emit.proofs.Fits.{AreByClass, Fits, fits_lower, fits_none, fits_more, fits_append, next_above, AreShort, Group, group_pieces, group_addresses, selected, Differ, class_fits}
use Rattle.cap_emit.proofs.Lengths.{length_header, length_segments, symbols_size, relas_size, cap_relocs_size, entries_size, hash_size}

-- the lists and the bytes are no longer than the sizes say
pub record AreSized (table : CapTableValue) (bodies : BodiesValue) (n : Sizes) : Type 0 where
  pub symbols : length table.symbols ≡ n.symbols
  pub relas : length table.relas ≤ n.relas
  pub cap_relocs : length table.cap_relocs ≤ n.cap_relocs
  pub names : length table.names ≤ n.names
  pub dynamics : length table.dynamics ≤ n.dynamics
  pub stubs : length bodies.stubs ≤ 16 * n.stubs
  pub slots : length bodies.slots ≤ 16 * n.slots

-- the header and the tables of the first segment, as chunks
abbrev table_chunks : Parts → CapTableValue → ℕ → ℕ → List Chunk
table_chunks at table flags entry =
    (0, file_header flags entry)
    ∷ (64, segment_headers at (length table.dynamics))
    ∷ (at.symbols_at, flat_map symbol_bytes (symbols_with_offsets table))
    ∷ (at.relas_at, flat_map rela_bytes table.relas)
    ∷ (at.cap_relocs_at, flat_map cap_reloc_bytes table.cap_relocs)
    ∷ (at.hash_at, flat_map (field_bytes 4) (hash_words table))
    ∷ (at.names_at, table.names)
    ∷ []

-- ---- chains of chunks
none : {at : ℕ} → Fits at [] at
none {at} = fits_none at at (omega arith)

more : {at end : ℕ} {c : Chunk} {cs : List Chunk} (middle : ℕ) → at ≤ c.0 → c.0 + length c.1 ≤ middle → Fits middle cs end → Fits at (c ∷ cs) end
more {at} {end} {c} {cs} middle = fits_more at middle end c cs

behind : {at end : ℕ} {cs ds : List Chunk} (middle : ℕ) → Fits at cs middle → Fits middle ds end → Fits at (cs ++ ds) end
behind {at} {end} {cs} {ds} middle = fits_append at middle end cs ds

same : {x : ℕ} → x ≤ x
same {x} = omega arith

sized : {length size : ℕ} (at : ℕ) → length ≤ size → at + length ≤ at + size
sized at h = omega (arith, h)

no_bytes : (at : ℕ) → at + 0 ≤ at
no_bytes at = omega arith

array_start_above : (end : ℕ) (ps : List Piece) → end ≤ array_start end ps
array_start_above end [] = omega arith
array_start_above end (p ∷ ps) = next_above end 16

chosen_above : (b : Bool) (x y : ℕ) → x ≤ y → x ≤ (if b then x else y)
chosen_above true x y h = omega arith
chosen_above false x y h = h

representable_above : (x : ℕ) → x ≤ representable_length x
unfolding representable_length
representable_above x = chosen_above (nat_lt x 4096) x (next_multiple_of x (grain_of x)) (next_above x (grain_of x))

range_above : (end : ℕ) → end ≤ code_range_end end
range_above end = omega (arith, next_above end 4096, representable_above (next_multiple_of end 4096))

-- ---- the classes
groups : List Piece → Sizes → List Group
groups ps n =
    let at = parts_of ps n in
    (Ro, names_end at n)
    ∷ (Code, stubs_end at n)
    ∷ (Init, array_start (slots_end at n) (of_class Init ps))
    ∷ (Fini, array_start (init_end ps at n) (of_class Fini ps))
    ∷ (Relro, fini_end ps at n)
    ∷ (Data, at.data_start)
    ∷ (Bss, at.file_end)
    ∷ []

seven : (a b c d e f g : List ℕ) → a ++ b ++ c ++ d ++ e ++ f ++ g ≡ a ++ (b ++ (c ++ (d ++ (e ++ (f ++ (g ++ []))))))
seven a b c d e f g =
    append_assoc (a ++ b ++ c ++ d ++ e) f g
    ∙ append_assoc (a ++ b ++ c ++ d) e (f ++ g)
    ∙ append_assoc (a ++ b ++ c) d (e ++ (f ++ g))
    ∙ append_assoc (a ++ b) c (d ++ (e ++ (f ++ g)))
    ∙ append_assoc a b (c ++ (d ++ (e ++ (f ++ g))))
    ∙ ap (λ x. a ++ (b ++ (c ++ (d ++ (e ++ (f ++ x)))))) (sym (append-nil g))

addresses_grouped : (ps : List Piece) (n : Sizes) → addresses_of ps n ≡ group_addresses ps (groups ps n)
unfolding groups
addresses_grouped ps n =
    let at = parts_of ps n in
    seven (addresses (names_end at n) (of_class Ro ps)) (addresses (stubs_end at n) (of_class Code ps))
    (addresses (array_start (slots_end at n) (of_class Init ps)) (of_class Init ps)) (addresses (array_start (init_end ps at n) (of_class Fini ps)) (of_class Fini ps))
    (addresses (fini_end ps at n) (of_class Relro ps)) (addresses at.data_start (of_class Data ps)) (addresses at.file_end (of_class Bss ps))

-- the pieces of one of the classes
pieces_of_class : (class : Class) (start : ℕ) (ps : List Piece) (n : Sizes) (bs : List (List ℕ)) (front back : List Group) → groups ps n ≡ front ++ (class, start) ∷ back → same_class class class ≡ true → Differ class front → Differ class back → AreByClass ps → AreShort ps bs →
    Fits start (selected class (zip ps (zip (addresses_of ps n) bs))) (last_end start (of_class class ps))
unfolding groups
pieces_of_class class start ps n bs front back is e f b by short =
    let all = front ++ (class, start) ∷ back in
    let pieces_are : ps ≡ group_pieces ps all = by ∙ ap (group_pieces ps) is in
    let addresses_are : addresses_of ps n ≡ group_addresses ps all = addresses_grouped ps n ∙ ap (group_addresses ps) is in
    let there : AreShort (group_pieces ps all) bs = subst (λ qs. AreShort qs bs) pieces_are short in
    let both = ap (λ qs. zip qs (zip (addresses_of ps n) bs)) pieces_are ∙ ap (λ xs. zip (group_pieces ps all) (zip xs bs)) addresses_are in
    subst (λ ws. Fits start (selected class ws) (last_end start (of_class class ps))) (sym both) (class_fits class start ps front back bs e f b there)

-- ---- the whole
-- the header and the tables of the first segment
tables_fit : (pieces : PieceList) (n : Sizes) (table : CapTableValue) (bodies : BodiesValue) (flags entry : ℕ) → AreSized table bodies n →
    Fits 0 (table_chunks (parts_of pieces.all n) table flags entry) (names_end (parts_of pieces.all n) n)
tables_fit pieces n table bodies flags entry sizes =
    let at = parts_of pieces.all n in
    let header : 0 + length (file_header flags entry) ≤ 64 = omega (arith, length_header flags entry) in
    let segments : 64 + length (segment_headers at (length table.dynamics)) ≤ at.symbols_at = omega (arith, length_segments at (length table.dynamics)) in
    more 64 same header
    (more at.symbols_at same segments
    (more at.relas_at same (sized at.symbols_at (symbols_size table n.symbols (omega (arith, sizes.symbols))))
    (more at.cap_relocs_at same (sized at.relas_at (relas_size table.relas n.relas sizes.relas))
    (more at.hash_at same (sized at.cap_relocs_at (cap_relocs_size table.cap_relocs n.cap_relocs sizes.cap_relocs))
    (more at.names_at same (sized at.hash_at (hash_size table n.symbols sizes.symbols))
    (more (names_end at n) same (sized at.names_at sizes.names) none))))))

-- all parts
pub parts_fit : (rels : List RelObject) (pieces : PieceList) (n : Sizes) (table : CapTableValue) (bodies : BodiesValue) (flags entry : ℕ) → AreByClass pieces.all → AreShort pieces.all bodies.pieces → AreSized table bodies n →
    AreApart 0 (chunks (laid_as rels pieces n) table bodies flags entry)
unfolding groups
parts_fit rels pieces n table bodies flags entry by short sizes =
    let laid = laid_as rels pieces n in
    let ps = pieces.all in
    let at = parts_of ps n in
    let bs = bodies.pieces in
    let init = array_start (slots_end at n) (of_class Init ps) in
    let fini = array_start (init_end ps at n) (of_class Fini ps) in
    let relro_end = last_end (fini_end ps at n) (of_class Relro ps) in
    let g1 : Group = (Ro, names_end at n) in
    let g2 : Group = (Code, stubs_end at n) in
    let g3 : Group = (Init, init) in
    let g4 : Group = (Fini, fini) in
    let g5 : Group = (Relro, fini_end ps at n) in
    let g6 : Group = (Data, at.data_start) in
    let g7 : Group = (Bss, at.file_end) in
    let ro_fits = pieces_of_class Ro (names_end at n) ps n bs [] (g2 ∷ g3 ∷ g4 ∷ g5 ∷ g6 ∷ g7 ∷ []) refl refl tt (refl, (refl, (refl, (refl, (refl, (refl, tt)))))) by short in
    let code_fits = pieces_of_class Code (stubs_end at n) ps n bs (g1 ∷ []) (g3 ∷ g4 ∷ g5 ∷ g6 ∷ g7 ∷ []) refl refl (refl, tt) (refl, (refl, (refl, (refl, (refl, tt))))) by short in
    let init_fits = pieces_of_class Init init ps n bs (g1 ∷ g2 ∷ []) (g4 ∷ g5 ∷ g6 ∷ g7 ∷ []) refl refl (refl, (refl, tt)) (refl, (refl, (refl, (refl, tt)))) by short in
    let fini_fits = pieces_of_class Fini fini ps n bs (g1 ∷ g2 ∷ g3 ∷ []) (g5 ∷ g6 ∷ g7 ∷ []) refl refl (refl, (refl, (refl, tt))) (refl, (refl, (refl, tt))) by short in
    let relro_fits = pieces_of_class Relro (fini_end ps at n) ps n bs (g1 ∷ g2 ∷ g3 ∷ g4 ∷ []) (g6 ∷ g7 ∷ []) refl refl (refl, (refl, (refl, (refl, tt)))) (refl, (refl, tt)) by short in
    let data_fits = pieces_of_class Data at.data_start ps n bs (g1 ∷ g2 ∷ g3 ∷ g4 ∷ g5 ∷ []) (g7 ∷ []) refl refl (refl, (refl, (refl, (refl, (refl, tt))))) (refl, tt) by short in
    let c1 = behind (names_end at n) (tables_fit pieces n table bodies flags entry sizes) ro_fits in
    let stubs : Fits at.ro_end ((at.stubs_at, bodies.stubs) ∷ []) (stubs_end at n) = more (stubs_end at n) (next_above at.ro_end 4096) (sized at.stubs_at sizes.stubs) none in
    let c2 = behind at.ro_end c1 stubs in
    let c3 = behind (stubs_end at n) c2 code_fits in
    let slots : Fits at.code_end ((at.dynamic_at, flat_map entry_bytes table.dynamics) ∷ (at.slots_at, bodies.slots) ∷ []) (slots_end at n) =
    more at.slots_at (next_above at.code_end 4096) (sized at.dynamic_at (entries_size table.dynamics n.dynamics sizes.dynamics)) (more (slots_end at n) same (sized at.slots_at sizes.slots) none) in
    let c4 = behind at.code_end c3 slots in
    let c5 = behind (slots_end at n) c4 (fits_lower (slots_end at n) init (init_end ps at n) (piece_chunks laid bodies Init) (array_start_above (slots_end at n) (of_class Init ps)) init_fits) in
    let c6 = behind (init_end ps at n) c5 (fits_lower (init_end ps at n) fini (fini_end ps at n) (piece_chunks laid bodies Fini) (array_start_above (init_end ps at n) (of_class Fini ps)) fini_fits) in
    let c7 = behind (fini_end ps at n) c6 relro_fits in
    let end : Fits relro_end ((at.table_end, []) ∷ []) at.table_end = more at.table_end (range_above relro_end) (no_bytes at.table_end) none in
    let c8 = behind relro_end c7 end in
    let c9 = behind at.table_end c8 data_fits in
    let whole : Fits 0 (chunks laid table bodies flags entry) at.file_end = c9 in
    whole.apart
