-- A layout is exact: at all multiples of the file's alignment, pieces have exact bounds, and they lie apart in the file.
use Rattle.std.proofs.Common.{◌≡◌, ℕ, zero, suc, ◌+◌, ◌*◌, ◌%◌, ◌<◌, ◌≤◌, true, List, [], ◌∷◌, ◌++◌, length, get_or, sym, ◌∙◌, subst, arith, append_assoc}
use Rattle.std.specs.Prelude.{All, fold, map, max}
use Rattle.std.specs.Int.{next_multiple_of}
use Rattle.std.proofs.lemmas.Bool.{cond-true}
use Rattle.cap_conc.specs.Computed.{is_exact, representable_length, representable_alignment}
use Rattle.cap_elf.specs.declared.records.Class.TheVariants.{Ro, Code, Init, Fini, Relro, Data, Bss}
use Rattle.cap_elf.specs.Classes.{is_split}
use Rattle.cap_elf.specs.RelObject.{RelObject}
use Rattle.cap_layout.specs.declared.piece.Piece.{Piece}
use Rattle.cap_layout.specs.declared.parts.Sizes.{Sizes}
use Rattle.cap_layout.specs.IsPiece.{IsPiece}
use Rattle.cap_layout.specs.Exact.{IsExactlyLaid}
use Rattle.cap_layout.specs.Laid.{laid_as}
use Rattle.cap_layout.specs.Parts.{array_start, parts_of, addresses_of, names_end, stubs_end, slots_end, init_end, fini_end, whole_alignment, code_range_end}
use Rattle.cap_layout.specs.Pieces.{PieceList, piece_of, no_piece}
use Rattle.cap_layout.specs.Places.{addresses, end_after, last_end, of_class, InClassOrder}
use Rattle.cap_layout.proofs.Multiples.{exact_at, exact_from, rounded_again}
use Rattle.cap_layout.proofs.PiecePowers.{IsPower, pow_power, max_power, representable_power}
use Rattle.cap_layout.proofs.PlaceAlignment.{fold_push}
use Rattle.cap_layout.proofs.PlaceLemmas.{last_end-above, ArePlaced-aligned, ArePlaced-apart}
use Rattle.cap_layout.proofs.PlaceOrder.{array_above, range_above, all_placed, all_counted}

-- ---- the largest alignment
from : (m : ℕ) (ps : List Piece) → m ≤ fold max m (map (λ p. p.align) ps)
from m [] = omega arith
from m (p ∷ ps) = let rest = from (max m p.align) ps in omega (arith, rest)

largest_at : (m : ℕ) (ps : List Piece) (i : ℕ) → i < length ps → (get_or ps i no_piece).align ≤ fold max m (map (λ p. p.align) ps)
largest_at m [] i lt = absurd (omega (arith, lt))
largest_at m (p ∷ ps) zero lt = let rest = from (max m p.align) ps in omega (arith, rest)
largest_at m (p ∷ ps) (suc i) lt = largest_at (max m p.align) ps i (omega (arith, lt))

largest_power : (m : ℕ) (ps : List Piece) → IsPower m → All IsPiece ps → IsPower (fold max m (map (λ p. p.align) ps))
largest_power m [] power sound = power
largest_power m (p ∷ ps) power sound =
    let first : IsPiece p = sound 0 p (omega arith) in
    largest_power (max m p.align) ps (max_power m p.align power first.align_power) (λ k d lt. sound (suc k) d (omega (arith, lt)))

left_of : (a l r w : ℕ) → a ≤ l → w ≡ max l r → a ≤ w
left_of a l r w le is = omega (arith, le, is)

right_of : (l r w : ℕ) → w ≡ max l r → r ≤ w
right_of l r w is = omega (arith, is)

module _ (ps : List Piece) (end : ℕ) where
  abbrev largest : ℕ
  largest = fold max 4096 (map (λ p. p.align) ps)

  whole_is : whole_alignment ps end ≡ max largest (representable_alignment end)
  whole_is = fold_push 4096 (map (λ p. p.align) ps) (representable_alignment end)

  whole_power : All IsPiece ps → IsPower (whole_alignment ps end)
  whole_power sound =
      subst IsPower (sym whole_is) (max_power largest (representable_alignment end) (largest_power 4096 ps (pow_power 12) sound) (representable_power end))

  whole_at : (i : ℕ) → i < length ps → (piece_of ps i).align ≤ whole_alignment ps end
  whole_at i lt = left_of (piece_of ps i).align largest (representable_alignment end) (whole_alignment ps end) (largest_at 4096 ps i lt) whole_is

  whole_end : representable_alignment end ≤ whole_alignment ps end
  whole_end = right_of largest (representable_alignment end) (whole_alignment ps end) whole_is

-- ---- all end where the file ends, or before
abbrev EndBy : ℕ → List Piece → List ℕ → Type 0
EndBy high [] as' = Unit {0}
EndBy high (p ∷ ps) [] = Unit {0}
EndBy high (p ∷ ps) (a ∷ as') = (a + p.padded ≤ high) × EndBy high ps as'

end_by : (high end : ℕ) (ps : List Piece) → last_end end ps ≤ high → EndBy high ps (addresses end ps)
end_by high end [] le = tt
end_by high end (p ∷ ps) le =
    let rest = last_end-above (end_after end p) ps in (omega (arith, rest, le), end_by high (end_after end p) ps le)

end_append : (high end : ℕ) (ps qs : List Piece) (rest : List ℕ) → last_end end ps ≤ high → EndBy high qs rest → EndBy high (ps ++ qs) (addresses end ps ++ rest)
end_append high end [] qs rest le h = h
end_append high end (p ∷ ps) qs rest le h =
    let first = last_end-above (end_after end p) ps in (omega (arith, first, le), end_append high (end_after end p) ps qs rest le h)

end_at : (high : ℕ) (ps : List Piece) (as' : List ℕ) (i : ℕ) → EndBy high ps as' → i < length ps → i < length as' → get_or as' i 0 + (get_or ps i no_piece).padded ≤ high
end_at high [] as' i h lt inside = absurd (omega (arith, lt))
end_at high (p ∷ ps) [] i h lt inside = absurd (omega (arith, inside))
end_at high (p ∷ ps) (a ∷ as') zero h lt inside = h.0
end_at high (p ∷ ps) (a ∷ as') (suc i) h lt inside = end_at high ps as' i h.1 (omega (arith, lt)) (omega (arith, inside))

below : (a b c : ℕ) → a ≤ b → b ≤ c → a ≤ c
below a b c h k = omega (arith, h, k)

module _ (pieces : List Piece) (n : Sizes) where
  in_file : EndBy (parts_of pieces n).mem_end (of_class Ro pieces ++ (of_class Code pieces ++ (of_class Init pieces ++ (of_class Fini pieces ++ (of_class Relro pieces ++ (of_class Data pieces ++ of_class Bss pieces)))))) (addresses (names_end (parts_of pieces n) n) (of_class Ro pieces) ++ (addresses (stubs_end (parts_of pieces n) n) (of_class Code pieces) ++ (addresses (array_start (slots_end (parts_of pieces n) n) (of_class Init pieces)) (of_class Init pieces) ++ (addresses (array_start (init_end pieces (parts_of pieces n) n) (of_class Fini pieces)) (of_class Fini pieces) ++ (addresses (fini_end pieces (parts_of pieces n) n) (of_class Relro pieces) ++ (addresses (parts_of pieces n).data_start (of_class Data pieces) ++ addresses (parts_of pieces n).file_end (of_class Bss pieces)))))))
  in_file =
      let at = parts_of pieces n in
      let names = names_end at n in
      let stubs = stubs_end at n in
      let slots = slots_end at n in
      let init = array_start slots (of_class Init pieces) in
      let inits = init_end pieces at n in
      let fini = array_start inits (of_class Fini pieces) in
      let finis = fini_end pieces at n in
      let relro = last_end finis (of_class Relro pieces) in
      let code_before : at.ro_end ≤ stubs = omega arith in
      let table_before : at.code_end ≤ slots = omega arith in
      let bss_high : at.file_end ≤ at.mem_end = last_end-above at.file_end (of_class Bss pieces) in
      let data_high : at.data_start ≤ at.mem_end = below at.data_start at.file_end at.mem_end (last_end-above at.data_start (of_class Data pieces)) bss_high in
      let relro_high : relro ≤ at.mem_end = below relro at.data_start at.mem_end (range_above relro) data_high in
      let fini_high : finis ≤ at.mem_end = below finis relro at.mem_end (last_end-above finis (of_class Relro pieces)) relro_high in
      let init_high : inits ≤ at.mem_end = below inits finis at.mem_end (below inits fini finis (array_above inits (of_class Fini pieces)) (last_end-above fini (of_class Fini pieces))) fini_high in
      let slots_high : slots ≤ at.mem_end = below slots inits at.mem_end (below slots init inits (array_above slots (of_class Init pieces)) (last_end-above init (of_class Init pieces))) init_high in
      let code_high : at.code_end ≤ at.mem_end = below at.code_end slots at.mem_end table_before slots_high in
      let ro_high : at.ro_end ≤ at.mem_end = below at.ro_end at.code_end at.mem_end (below at.ro_end stubs at.code_end code_before (last_end-above stubs (of_class Code pieces))) code_high in
      end_append at.mem_end names (of_class Ro pieces) _ _ ro_high
      (end_append at.mem_end stubs (of_class Code pieces) _ _ code_high
      (end_append at.mem_end init (of_class Init pieces) _ _ init_high
      (end_append at.mem_end fini (of_class Fini pieces) _ _ fini_high
      (end_append at.mem_end finis (of_class Relro pieces) _ _ relro_high
      (end_append at.mem_end at.data_start (of_class Data pieces) _ _ bss_high
      (end_by at.mem_end at.file_end (of_class Bss pieces) (omega arith)))))))

all_in_file : (pieces : List Piece) (n : Sizes) → InClassOrder pieces → EndBy (parts_of pieces n).mem_end pieces (addresses_of pieces n)
all_in_file pieces n order =
    subst (λ ps. EndBy (parts_of pieces n).mem_end ps (addresses_of pieces n)) (sym order) (simp append_assoc (in_file pieces n))

-- ---- the layout
exact_piece : (p : Piece) (whole k at : ℕ) → IsPiece p → is_split p.class ≡ true → IsPower whole → p.align ≤ whole → at % p.align ≡ 0 → is_exact (k * whole + at) p.padded ≡ true
exact_piece p whole k at sound split power le multiple =
    let padded : p.padded ≡ representable_length p.size = sound.padded ∙ cond-true (is_split p.class) (representable_length p.size) p.size split in
    subst (λ len. is_exact (k * whole + at) len ≡ true) (sym padded) (exact_at p.size p.align whole k at sound.align_power power (sound.representable split) le multiple)

exact_code : (ps : List Piece) (end k : ℕ) → All IsPiece ps → is_exact (k * whole_alignment ps (code_range_end end)) (code_range_end end) ≡ true
exact_code ps end k sound =
    let len = code_range_end end in
    subst (λ m. is_exact (k * whole_alignment ps len) m ≡ true) (rounded_again (next_multiple_of end 4096)) (exact_from len (whole_alignment ps len) k (whole_power ps len sound) (whole_end ps len))

pub exactly_laid : (rels : List RelObject) (pieces : PieceList) (n : Sizes) → All IsPiece pieces.all → InClassOrder pieces.all → IsExactlyLaid (laid_as rels pieces n)
exactly_laid rels pieces n sound order =
    let all = pieces.all in
    let at = parts_of all n in
    let placed = all_placed all n sound order in
    let counted = all_counted all n order in
    let has : (i : ℕ) → i < length all → i < length (addresses_of all n) = λ i lt. subst (λ m. i < m) (sym counted) lt in
    record {
      pieces = λ k i lt split. exact_piece (piece_of all i) (whole_alignment all at.table_end) k (get_or (addresses_of all n) i 0) (sound i no_piece lt) split (whole_power all at.table_end sound) (whole_at all at.table_end i lt) (ArePlaced-aligned 0 all (addresses_of all n) i no_piece placed (has i lt));
      code = λ k. exact_code all (last_end (fini_end all at n) (of_class Relro all)) k sound;
      apart = λ i j lt inside. ArePlaced-apart 0 all (addresses_of all n) i j no_piece placed lt (has j inside);
      within = λ i lt. end_at at.mem_end all (addresses_of all n) i (all_in_file all n order) lt (has i lt);
    }
