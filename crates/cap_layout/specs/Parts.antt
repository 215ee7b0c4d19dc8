-- The order of a linked file: where each part begins and ends.
use Rattle.std.specs.Prelude.{ℕ, ◌+◌, ◌-◌, ◌*◌, ◌/◌, max, Bool, not, ◌==◌, if◌then◌else◌, List, [], ◌∷◌, ◌++◌, map, fold}
use Rattle.std.specs.Int.{next_multiple_of}
use Rattle.std.specs.List.{list_any}
use Rattle.cap_conc.specs.Computed.{representable_length, representable_alignment}
use Rattle.cap_elf.specs.declared.records.Class.TheVariants.{Ro, Code, Init, Fini, Relro, Data, Bss}
use Rattle.cap_layout.specs.declared.piece.Piece.{Piece}
use Rattle.cap_layout.specs.declared.parts.Parts.{Parts}
use Rattle.cap_layout.specs.declared.parts.Sizes.{Sizes}
use Rattle.cap_layout.specs.Places.{addresses, ends, last_end, of_class}

-- the words of the hash table of n symbols
abbrev pub hash_words_of : ℕ → ℕ
hash_words_of n = 2 + max 1 (n / 2) + n

-- the headers of the file and of its six segments
abbrev pub headers_end : ℕ
headers_end = 64 + 6 * 56

-- an array begins at a multiple of 16, and the pieces after it follow it only if it has any
abbrev pub array_start : ℕ → List Piece → ℕ
array_start end [] = end
array_start end (p ∷ ps) = next_multiple_of end 16

abbrev pub array_end : ℕ → List Piece → ℕ
array_end end ps = last_end (array_start end ps) ps

abbrev pub has_bytes : List Piece → Bool
has_bytes ps = list_any (λ p. not (p.size == 0)) ps

abbrev pub array_size : ℕ → List Piece → ℕ
array_size end ps = if has_bytes ps then array_end end ps - next_multiple_of end 16 else 0

-- the end of what is read-only after loading, so far that a capability for all up to it is exact
abbrev pub code_range_end : ℕ → ℕ
code_range_end end = representable_length (next_multiple_of end 4096)

-- the largest alignment
abbrev pub whole_alignment : List Piece → ℕ → ℕ
whole_alignment pieces end = fold max 4096 (map (λ p. p.align) pieces ++ representable_alignment end ∷ [])

abbrev pub parts_of : List Piece → Sizes → Parts
parts_of pieces n =
    let symbols_at = headers_end in
    let relas_at = symbols_at + 24 * n.symbols in
    let cap_relocs_at = relas_at + 24 * n.relas in
    let hash_at = cap_relocs_at + 40 * n.cap_relocs in
    let names_at = hash_at + 4 * hash_words_of n.symbols in
    let ro_end = last_end (names_at + n.names) (of_class Ro pieces) in
    let code_start = next_multiple_of ro_end 4096 in
    let code_end = last_end (code_start + 16 * n.stubs) (of_class Code pieces) in
    let table_start = next_multiple_of code_end 4096 in
    let slots_at = table_start + 16 * n.dynamics in
    let slots_end = slots_at + 16 * n.slots in
    let init_end = array_end slots_end (of_class Init pieces) in
    let fini_end = array_end init_end (of_class Fini pieces) in
    let relro_end = last_end fini_end (of_class Relro pieces) in
    let table_end = code_range_end relro_end in
    let file_end = last_end table_end (of_class Data pieces) in
    record {
      ro_end = ro_end;
      code_start = code_start;
      code_end = code_end;
      table_start = table_start;
      table_end = table_end;
      data_start = table_end;
      file_end = file_end;
      mem_end = last_end file_end (of_class Bss pieces);
      symbols_at = symbols_at;
      relas_at = relas_at;
      cap_relocs_at = cap_relocs_at;
      hash_at = hash_at;
      names_at = names_at;
      stubs_at = code_start;
      dynamic_at = table_start;
      slots_at = slots_at;
      init_at = next_multiple_of slots_end 16;
      init_size = array_size slots_end (of_class Init pieces);
      fini_at = next_multiple_of init_end 16;
      fini_size = array_size init_end (of_class Fini pieces);
      align = whole_alignment pieces table_end;
    }

-- the end of the names, the stubs, the slots, and the arrays, after which pieces follow
abbrev pub names_end : Parts → Sizes → ℕ
names_end at n = at.names_at + n.names

abbrev pub stubs_end : Parts → Sizes → ℕ
stubs_end at n = at.stubs_at + 16 * n.stubs

abbrev pub slots_end : Parts → Sizes → ℕ
slots_end at n = at.slots_at + 16 * n.slots

abbrev pub init_end : List Piece → Parts → Sizes → ℕ
init_end pieces at n = array_end (slots_end at n) (of_class Init pieces)

abbrev pub fini_end : List Piece → Parts → Sizes → ℕ
fini_end pieces at n = array_end (init_end pieces at n) (of_class Fini pieces)

-- the addresses of the pieces of each class, in the order of the pieces
abbrev pub addresses_of : List Piece → Sizes → List ℕ
addresses_of pieces n =
    let at = parts_of pieces n in
    addresses (names_end at n) (of_class Ro pieces)
    ++ addresses (stubs_end at n) (of_class Code pieces)
    ++ addresses (array_start (slots_end at n) (of_class Init pieces)) (of_class Init pieces)
    ++ addresses (array_start (init_end pieces at n) (of_class Fini pieces)) (of_class Fini pieces)
    ++ addresses (fini_end pieces at n) (of_class Relro pieces)
    ++ addresses at.data_start (of_class Data pieces)
    ++ addresses at.file_end (of_class Bss pieces)

-- all padded ends, in the order of the file: the headers, the tables and the names count as padded
abbrev pub padded_ends : List Piece → Sizes → List ℕ
padded_ends pieces n =
    let at = parts_of pieces n in
    (at.symbols_at ∷ at.relas_at ∷ at.cap_relocs_at ∷ at.hash_at ∷ at.names_at ∷ names_end at n ∷ [])
    ++ ends (names_end at n) (of_class Ro pieces)
    ++ (stubs_end at n ∷ ends (stubs_end at n) (of_class Code pieces))
    ++ (at.slots_at ∷ slots_end at n ∷ ends (array_start (slots_end at n) (of_class Init pieces)) (of_class Init pieces))
    ++ ends (array_start (init_end pieces at n) (of_class Fini pieces)) (of_class Fini pieces)
    ++ ends (fini_end pieces at n) (of_class Relro pieces)
    ++ (at.table_end ∷ ends at.data_start (of_class Data pieces))
    ++ ends at.file_end (of_class Bss pieces)
