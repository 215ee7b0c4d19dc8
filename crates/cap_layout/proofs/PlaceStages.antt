-- The walk along the file gives the places of the definition.
use Rattle.std.proofs.Common.{◌≡◌, ℕ, ◌+◌, ◌-◌, ◌*◌, Bool, true, false, not, ◌&&◌, ◌||◌, cond, List, [], ◌∷◌, ◌++◌, Result, Ok, Err, refl, sym, ap, ◌∙◌, append_assoc, subst, ⊎_elim, inl, inr, IfOk}
use Rattle.std.specs.Prelude.{◌==◌}
use Rattle.std.specs.Int.{next_multiple_of}
use Rattle.std.proofs.lemmas.List.{append-nil}
use Rattle.cap_base.specs.Steps.{◌>>=◌, ◌>>◌, steps, each, Yields}
use Rattle.cap_base.specs.declared.refusal.Refusal.{Refusal}
use Rattle.cap_base.specs.declared.refusal.Refusal.TheVariants.{NoMemory}
use Rattle.cap_elf.specs.declared.records.Class.{Class}
use Rattle.cap_elf.specs.declared.records.Class.TheVariants.{Ro, Code, Init, Fini, Relro, Data, Bss}
use Rattle.cap_elf.specs.Classes.{same_class}
use Rattle.cap_layout.specs.declared.piece.Piece.{Piece}
use Rattle.cap_layout.specs.declared.parts.Parts.{Parts}
use Rattle.cap_layout.specs.declared.parts.Sizes.{Sizes}
use Rattle.cap_layout.specs.declared.stages.Tables.{Tables}
use Rattle.cap_layout.specs.declared.stages.ReadOnly.{ReadOnly}
use Rattle.cap_layout.specs.declared.stages.CodePart.{CodePart}
use Rattle.cap_layout.specs.declared.stages.CallArray.{CallArray}
use Rattle.cap_layout.specs.declared.stages.Relocated.{Relocated}
use Rattle.cap_layout.specs.declared.stages.Writable.{Writable}
use Rattle.cap_layout.specs.Laid.{ends_low}
use Rattle.cap_layout.specs.Parts.{array_start, array_size, has_bytes, code_range_end, parts_of, addresses_of, padded_ends}
use Rattle.cap_layout.specs.Places.{address_after, end_after, addresses, ends, last_end, of_class}
use Rattle.cap_layout.specs.Running.{Placed, reached, with_piece, with_one, with_class}
use Rattle.cap_layout.specs.Segments.{tables_of, with_tables, with_read_only, with_code, has_class, has_class_bytes, array_first, with_array, with_relocated, with_writable, parts_from, with_all, all_places, placed_as}
use Rattle.cap_layout.proofs.PlaceChains.{Passes, passes_none, passes_one, passes_then}

abbrev pub after : Placed → ℕ → Placed
after at end = record { addresses = at.addresses; end = end }

pub reached_is : (at : Placed) (end : ℕ) → Passes (reached at end) (end ∷ []) (after at end)
unfolding reached
reached_is at end = passes_one end (after at end)

-- pieces one after another
abbrev pub after_pieces : Placed → List Piece → Placed
after_pieces at ps = record { addresses = at.addresses ++ addresses at.end ps; end = last_end at.end ps }

abbrev one_more : Placed → Piece → Placed
one_more at p = record { addresses = at.addresses ++ address_after at.end p ∷ []; end = end_after at.end p }

piece_is : (at : Placed) (p : Piece) → Passes (with_piece at p) (end_after at.end p ∷ []) (one_more at p)
unfolding with_piece
piece_is at p =
    passes_then (reached at (end_after at.end p)) (λ b. Ok (record { addresses = b.addresses ++ address_after at.end p ∷ []; end = b.end })) (end_after at.end p ∷ []) [] (after at (end_after at.end p)) (one_more at p) (reached_is at (end_after at.end p)) (passes_none (one_more at p))

one_more_then : (at : Placed) (p : Piece) (ps : List Piece) → after_pieces (one_more at p) ps ≡ after_pieces at (p ∷ ps)
one_more_then at p ps =
    ap (λ (as' : List ℕ). let made : Placed = record { addresses = as'; end = last_end (end_after at.end p) ps } in made) (append_assoc at.addresses (address_after at.end p ∷ []) (addresses (end_after at.end p) ps))

pieces_are : (at : Placed) (ps : List Piece) → Passes (steps with_piece at ps) (ends at.end ps) (after_pieces at ps)
pieces_are at [] = ap (λ (as' : List ℕ). let made : Result Placed Refusal = Ok (record { addresses = as'; end = at.end }) in made) (sym (append-nil at.addresses))
pieces_are at (p ∷ ps) =
    subst (λ v. Passes (steps with_piece at (p ∷ ps)) (ends at.end (p ∷ ps)) v) (one_more_then at p ps)
    (passes_then (with_piece at p) (λ b. steps with_piece b ps) (end_after at.end p ∷ []) (ends (end_after at.end p) ps) (one_more at p) (after_pieces (one_more at p) ps) (piece_is at p) (pieces_are (one_more at p) ps))

filtered : (class : Class) (at : Placed) (pieces : List Piece) → steps (with_one class) at pieces ≡ steps with_piece at (of_class class pieces)
filtered class at [] = refl
filtered class at (p ∷ ps) = by_case (λ b. filtered class b ps) (same_class p.class class)
  where
    rest : ((b : Placed) → steps (with_one class) b ps ≡ steps with_piece b (of_class class ps)) → (r : Result Placed Refusal) → (r >>= (λ b. steps (with_one class) b ps)) ≡ (r >>= (λ b. steps with_piece b (of_class class ps)))
    rest h (Ok b) = h b
    rest h (Err e) = refl

    by_case : ((b : Placed) → steps (with_one class) b ps ≡ steps with_piece b (of_class class ps)) → (b : Bool) → (cond b (with_piece at p) (Ok at) >>= (λ b. steps (with_one class) b ps)) ≡ steps with_piece at (cond b (p ∷ of_class class ps) (of_class class ps))
    by_case h true = rest h (with_piece at p)
    by_case h false = h at

pub class_is : (class : Class) (pieces : List Piece) (at : Placed) → Passes (with_class class pieces at) (ends at.end (of_class class pieces)) (after_pieces at (of_class class pieces))
unfolding with_class
class_is class pieces at = filtered class at pieces ∙ pieces_are at (of_class class pieces)

-- the tables
tables_are : (t : Tables) (at : Placed) → Passes (with_tables t at) (t.symbols_at ∷ t.relas_at ∷ t.cap_relocs_at ∷ t.hash_at ∷ t.names_at ∷ t.names_end ∷ []) (after at t.names_end)
unfolding with_tables
tables_are t at =
    passes_then (reached at t.symbols_at) _ (t.symbols_at ∷ []) (t.relas_at ∷ t.cap_relocs_at ∷ t.hash_at ∷ t.names_at ∷ t.names_end ∷ []) (after at t.symbols_at) (after at t.names_end) (reached_is at t.symbols_at)
    (passes_then (reached (after at t.symbols_at) t.relas_at) _ (t.relas_at ∷ []) (t.cap_relocs_at ∷ t.hash_at ∷ t.names_at ∷ t.names_end ∷ []) (after at t.relas_at) (after at t.names_end) (reached_is (after at t.symbols_at) t.relas_at)
    (passes_then (reached (after at t.relas_at) t.cap_relocs_at) _ (t.cap_relocs_at ∷ []) (t.hash_at ∷ t.names_at ∷ t.names_end ∷ []) (after at t.cap_relocs_at) (after at t.names_end) (reached_is (after at t.relas_at) t.cap_relocs_at)
    (passes_then (reached (after at t.cap_relocs_at) t.hash_at) _ (t.hash_at ∷ []) (t.names_at ∷ t.names_end ∷ []) (after at t.hash_at) (after at t.names_end) (reached_is (after at t.cap_relocs_at) t.hash_at)
    (passes_then (reached (after at t.hash_at) t.names_at) _ (t.names_at ∷ []) (t.names_end ∷ []) (after at t.names_at) (after at t.names_end) (reached_is (after at t.hash_at) t.names_at)
    (reached_is (after at t.names_at) t.names_end)))))

abbrev table_ends : Tables → List ℕ
table_ends t = t.symbols_at ∷ t.relas_at ∷ t.cap_relocs_at ∷ t.hash_at ∷ t.names_at ∷ t.names_end ∷ []

-- the first segment
module _ (pieces : List Piece) (n : Sizes) (at : Placed) where
  abbrev after_read_only : Placed
  after_read_only = after_pieces (after at (tables_of n).names_end) (of_class Ro pieces)

  abbrev read_only_part : ReadOnly
  read_only_part = record { tables = tables_of n; end = after_read_only.end }

  read_only_is : Passes (with_read_only pieces n at) (table_ends (tables_of n) ++ (ends (tables_of n).names_end (of_class Ro pieces) ++ [])) (after_read_only, read_only_part)
  unfolding with_read_only
  read_only_is =
      passes_then (with_tables (tables_of n) at) _ (table_ends (tables_of n)) (ends (tables_of n).names_end (of_class Ro pieces) ++ []) (after at (tables_of n).names_end) (after_read_only, read_only_part) (tables_are (tables_of n) at)
      (passes_then (with_class Ro pieces (after at (tables_of n).names_end)) _ (ends (tables_of n).names_end (of_class Ro pieces)) [] after_read_only (after_read_only, read_only_part) (class_is Ro pieces (after at (tables_of n).names_end)) (passes_none (after_read_only, read_only_part)))

-- the second
module _ (pieces : List Piece) (n : Sizes) (at : Placed) where
  abbrev code_first : ℕ
  code_first = next_multiple_of at.end 4096

  abbrev stubs_last : ℕ
  stubs_last = code_first + 16 * n.stubs

  abbrev after_code : Placed
  after_code = after_pieces (after at stubs_last) (of_class Code pieces)

  abbrev code_part : CodePart
  code_part = record { start = code_first; end = after_code.end }

  code_is : Passes (with_code pieces n at) ((stubs_last ∷ []) ++ (ends stubs_last (of_class Code pieces) ++ [])) (after_code, code_part)
  unfolding with_code
  code_is =
      passes_then (reached at stubs_last) _ (stubs_last ∷ []) (ends stubs_last (of_class Code pieces) ++ []) (after at stubs_last) (after_code, code_part) (reached_is at stubs_last)
      (passes_then (with_class Code pieces (after at stubs_last)) _ (ends stubs_last (of_class Code pieces)) [] after_code (after_code, code_part) (class_is Code pieces (after at stubs_last)) (passes_none (after_code, code_part)))

-- an array
array_from : (class : Class) (pieces : List Piece) (at : Placed) → array_first class pieces at ≡ after at (array_start at.end (of_class class pieces))
array_from class [] at = refl
array_from class (p ∷ ps) at = by_case (array_from class ps at) (same_class p.class class)
  where
    by_case : array_first class ps at ≡ after at (array_start at.end (of_class class ps)) → (b : Bool) → cond (b || has_class class ps) (after at (next_multiple_of at.end 16)) at ≡ after at (array_start at.end (cond b (p ∷ of_class class ps) (of_class class ps)))
    by_case h true = refl
    by_case h false = h

bytes_in : (class : Class) (pieces : List Piece) → has_class_bytes class pieces ≡ has_bytes (of_class class pieces)
bytes_in class [] = refl
bytes_in class (p ∷ ps) = by_case (bytes_in class ps) (same_class p.class class)
  where
    by_case : has_class_bytes class ps ≡ has_bytes (of_class class ps) → (b : Bool) → ((b && not (p.size == 0)) || has_class_bytes class ps) ≡ has_bytes (cond b (p ∷ of_class class ps) (of_class class ps))
    by_case h true = ap (λ c. not (p.size == 0) || c) h
    by_case h false = h

module _ (class : Class) (pieces : List Piece) (at : Placed) where
  abbrev array_begin : ℕ
  array_begin = array_start at.end (of_class class pieces)

  abbrev after_array : Placed
  after_array = after_pieces (after at array_begin) (of_class class pieces)

  abbrev call_array : CallArray
  call_array = record { at = next_multiple_of at.end 16; size = array_size at.end (of_class class pieces) }

  abbrev sized : Bool → Placed × CallArray
  sized b = (after_array, record { at = next_multiple_of at.end 16; size = cond b (after_array.end - next_multiple_of at.end 16) 0 })

  abbrev array_value : Placed × CallArray
  array_value = (after_array, call_array)

  abbrev closed : Placed → Result (Placed × CallArray) Refusal
  closed last =
      let made : CallArray = record { at = next_multiple_of at.end 16; size = cond (has_class_bytes class pieces) (last.end - next_multiple_of at.end 16) 0 } in
      Ok (last, made)

  from_begin : Passes (with_class class pieces (after at array_begin) >>= closed) (ends array_begin (of_class class pieces) ++ []) (sized (has_class_bytes class pieces))
  from_begin =
      passes_then (with_class class pieces (after at array_begin)) closed (ends array_begin (of_class class pieces)) [] after_array (sized (has_class_bytes class pieces)) (class_is class pieces (after at array_begin)) (passes_none (sized (has_class_bytes class pieces)))

  array_is : Passes (with_array class pieces at) (ends array_begin (of_class class pieces) ++ []) array_value
  unfolding with_array
  array_is =
      ap (λ (first : Placed). with_class class pieces first >>= closed) (array_from class pieces at)
      ∙ from_begin
      ∙ ap (λ (b : Bool). each ends_low (ends array_begin (of_class class pieces) ++ []) >> Ok (sized b)) (bytes_in class pieces)

-- the third
module _ (pieces : List Piece) (n : Sizes) (at : Placed) where
  abbrev table_first : ℕ
  table_first = next_multiple_of at.end 4096

  abbrev slots_first : ℕ
  slots_first = table_first + 16 * n.dynamics

  abbrev slots_last : ℕ
  slots_last = slots_first + 16 * n.slots

  abbrev after_slots : Placed
  after_slots = after at slots_last

  abbrev after_init : Placed
  after_init = after_array Init pieces after_slots

  abbrev after_fini : Placed
  after_fini = after_array Fini pieces after_init

  abbrev after_relro : Placed
  after_relro = after_pieces after_fini (of_class Relro pieces)

  abbrev range_end : ℕ
  range_end = code_range_end after_relro.end

  abbrev relocated_part : Relocated
  relocated_part = record { start = table_first; slots_at = slots_first; init = call_array Init pieces after_slots; fini = call_array Fini pieces after_init; end = range_end }

  abbrev ends_range : List ℕ
  ends_range = (range_end ∷ []) ++ []

  abbrev ends_relro : List ℕ
  ends_relro = ends after_fini.end (of_class Relro pieces) ++ ends_range

  abbrev ends_fini : List ℕ
  ends_fini = (ends (array_begin Fini pieces after_init) (of_class Fini pieces) ++ []) ++ ends_relro

  abbrev ends_init : List ℕ
  ends_init = (ends (array_begin Init pieces after_slots) (of_class Init pieces) ++ []) ++ ends_fini

  abbrev ends_relocated : List ℕ
  ends_relocated = (slots_first ∷ []) ++ ((slots_last ∷ []) ++ ends_init)

  abbrev relocated_value : Placed × Relocated
  relocated_value = (after after_relro range_end, relocated_part)

  relocated_is : Passes (with_relocated pieces n at) ends_relocated relocated_value
  unfolding with_relocated
  relocated_is =
      passes_then (reached at slots_first) _ (slots_first ∷ []) ((slots_last ∷ []) ++ ends_init) (after at slots_first) relocated_value (reached_is at slots_first)
      (passes_then (reached (after at slots_first) slots_last) _ (slots_last ∷ []) ends_init after_slots relocated_value (reached_is (after at slots_first) slots_last)
      (passes_then (with_array Init pieces after_slots) _ (ends (array_begin Init pieces after_slots) (of_class Init pieces) ++ []) ends_fini (after_init, call_array Init pieces after_slots) relocated_value (array_is Init pieces after_slots)
      (passes_then (with_array Fini pieces after_init) _ (ends (array_begin Fini pieces after_init) (of_class Fini pieces) ++ []) ends_relro (after_fini, call_array Fini pieces after_init) relocated_value (array_is Fini pieces after_init)
      (passes_then (with_class Relro pieces after_fini) _ (ends after_fini.end (of_class Relro pieces)) ends_range after_relro relocated_value (class_is Relro pieces after_fini)
      (passes_then (reached after_relro range_end) _ (range_end ∷ []) [] (after after_relro range_end) relocated_value (reached_is after_relro range_end) (passes_none relocated_value))))))

-- the fourth
module _ (pieces : List Piece) (at : Placed) where
  abbrev after_data : Placed
  after_data = after_pieces at (of_class Data pieces)

  abbrev after_bss : Placed
  after_bss = after_pieces after_data (of_class Bss pieces)

  abbrev writable_value : Placed × Writable
  writable_value = (after_bss, record { file_end = after_data.end; mem_end = after_bss.end })

  abbrev ends_writable : List ℕ
  ends_writable = ends at.end (of_class Data pieces) ++ (ends after_data.end (of_class Bss pieces) ++ [])

  writable_is : Passes (with_writable pieces at) ends_writable writable_value
  unfolding with_writable
  writable_is =
      passes_then (with_class Data pieces at) _ (ends at.end (of_class Data pieces)) (ends after_data.end (of_class Bss pieces) ++ []) after_data writable_value (class_is Data pieces at)
      (passes_then (with_class Bss pieces after_data) _ (ends after_data.end (of_class Bss pieces)) [] after_bss writable_value (class_is Bss pieces after_data) (passes_none writable_value))

-- all of them
module _ (pieces : List Piece) (n : Sizes) where
  abbrev nothing : Placed
  nothing = record { addresses = []; end = 0 }

  abbrev after_first : Placed
  after_first = after_read_only pieces n nothing

  abbrev after_second : Placed
  after_second = after_code pieces n after_first

  abbrev after_third : Placed
  after_third = (relocated_value pieces n after_second).0

  abbrev all_value : Placed × Parts
  all_value = ((writable_value pieces after_third).0, parts_from pieces (read_only_part pieces n nothing) (code_part pieces n after_first) (relocated_part pieces n after_second) (writable_value pieces after_third).1)

  abbrev ends_first : List ℕ
  ends_first = table_ends (tables_of n) ++ (ends (tables_of n).names_end (of_class Ro pieces) ++ [])

  abbrev ends_second : List ℕ
  ends_second = (stubs_last pieces n after_first ∷ []) ++ (ends (stubs_last pieces n after_first) (of_class Code pieces) ++ [])

  abbrev ends_third : List ℕ
  ends_third = ends_relocated pieces n after_second

  abbrev ends_fourth : List ℕ
  ends_fourth = ends_writable pieces after_third

  all_pass : Passes (with_all pieces n) (ends_first ++ (ends_second ++ (ends_third ++ (ends_fourth ++ [])))) all_value
  unfolding with_all
  all_pass =
      passes_then (with_read_only pieces n nothing) _ ends_first (ends_second ++ (ends_third ++ (ends_fourth ++ []))) (after_first, read_only_part pieces n nothing) all_value (read_only_is pieces n nothing)
      (passes_then (with_code pieces n after_first) _ ends_second (ends_third ++ (ends_fourth ++ [])) (after_second, code_part pieces n after_first) all_value (code_is pieces n after_first)
      (passes_then (with_relocated pieces n after_second) _ ends_third (ends_fourth ++ []) (relocated_value pieces n after_second) all_value (relocated_is pieces n after_second)
      (passes_then (with_writable pieces after_third) _ ends_fourth [] (writable_value pieces after_third) all_value (writable_is pieces after_third) (passes_none all_value))))

  same_ends : ends_first ++ (ends_second ++ (ends_third ++ (ends_fourth ++ []))) ≡ padded_ends pieces n
  unfolding tables_of
  same_ends = simp (append_assoc, append-nil) refl

  same_value : all_value ≡ (record { addresses = addresses_of pieces n; end = (parts_of pieces n).mem_end }, parts_of pieces n)
  unfolding tables_of parts_from
  same_value = refl

-- the walk is the definition
pub all_is : (pieces : List Piece) (n : Sizes) → with_all pieces n ≡ placed_as pieces n
unfolding placed_as
all_is pieces n =
    all_pass pieces n ∙ ap (λ es. each ends_low es >> Ok (all_value pieces n)) (same_ends pieces n)
    ∙ ap (λ v. each ends_low (padded_ends pieces n) >> Ok v) (same_value pieces n)

-- what a call gives that walks
pub walked : (pieces : List Piece) (n : Sizes) (r : Result (Placed × Parts) Refusal) → Yields (λ placed. placed) r (with_all pieces n) → Yields (λ _. tt) r (each ends_low (padded_ends pieces n)) × IfOk r (λ placed. placed ≡ all_places pieces n)
unfolding placed_as
walked pieces n r h = apart (each ends_low (padded_ends pieces n)) r (subst (λ said. Yields (λ placed. placed) r said) (all_is pieces n) h)
  where
    apart : (c : Result (Unit {0}) Refusal) (r : Result (Placed × Parts) Refusal) → Yields (λ placed. placed) r (c >> Ok (all_places pieces n)) → Yields (λ _. tt) r c × IfOk r (λ placed. placed ≡ all_places pieces n)
    apart (Ok tt) (Ok placed) h = (refl, let same : placed ≡ all_places pieces n = cc in same)
    apart (Err e) (Ok placed) h = absurd (cc)
    apart (Ok tt) (Err e) h = (⊎_elim (λ (m : e ≡ NoMemory). inl m) (λ (d : Ok (all_places pieces n) ≡ Err e). absurd (cc)) h, tt)
    apart (Err f) (Err e) h = (⊎_elim (λ (m : e ≡ NoMemory). inl m) (λ (d : Err f ≡ Err e). inr (let same : f ≡ e = cc in ap (λ g. Err g) same)) h, tt)
