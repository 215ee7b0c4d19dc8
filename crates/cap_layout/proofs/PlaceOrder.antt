-- All pieces stand one after another, each at a multiple of its alignment.
use Rattle.std.proofs.Common.{◌≡◌, ℕ, suc, ◌^◌, ◌≤◌, List, [], ◌∷◌, ◌++◌, length, refl, sym, ap, ◌∙◌, arith, append_assoc, subst, length-append}
use Rattle.std.specs.Prelude.{All}
use Rattle.std.specs.Int.{next_multiple_of}
use Rattle.std.proofs.lemmas.List.Elements.{All-filter}
use Rattle.cap_conc.specs.Computed.{representable_length}
use Rattle.cap_conc.proofs.ComputedLemmas.{IsRepresentableLength-computed}
use Rattle.cap_elf.specs.declared.records.Class.{Class}
use Rattle.cap_elf.specs.declared.records.Class.TheVariants.{Ro, Code, Init, Fini, Relro, Data, Bss}
use Rattle.cap_elf.specs.Classes.{same_class}
use Rattle.cap_layout.specs.declared.piece.Piece.{Piece}
use Rattle.cap_layout.specs.declared.parts.Sizes.{Sizes}
use Rattle.cap_layout.specs.IsPiece.{IsPiece, IsLaid}
use Rattle.cap_layout.specs.Laid.{laid_as}
use Rattle.cap_layout.specs.Pieces.{PieceList}
use Rattle.cap_elf.specs.RelObject.{RelObject}
use Rattle.cap_layout.specs.Parts.{array_start, parts_of, addresses_of, names_end, stubs_end, slots_end, init_end, fini_end}
use Rattle.cap_layout.specs.Places.{addresses, end_after, last_end, of_class, ArePlaced, InClassOrder}
use Rattle.cap_layout.proofs.PlaceBounds.{power_some}
use Rattle.cap_layout.proofs.PlaceLemmas.{AllAligned, addresses-placed, ArePlaced-lower, ArePlaced-append}

aligned : (ps : List Piece) → All IsPiece ps → AllAligned ps
aligned [] h = tt
aligned (p ∷ ps) h =
    let first : IsPiece p = h 0 p (omega arith) in
    (power_some p.align first.align_power, aligned ps (λ k d lt. h (suc k) d (omega (arith, lt))))

class_aligned : (class : Class) (pieces : List Piece) → All IsPiece pieces → AllAligned (of_class class pieces)
class_aligned class pieces h = aligned (of_class class pieces) (All-filter (λ p. same_class p.class class) IsPiece pieces h)

pub array_above : (end : ℕ) (ps : List Piece) → end ≤ array_start end ps
array_above end [] = omega arith
array_above end (p ∷ ps) = omega arith

pub range_above : (n : ℕ) → n ≤ representable_length (next_multiple_of n 4096)
range_above n =
    let rounded = (IsRepresentableLength-computed (next_multiple_of n 4096)).enough in omega (arith, rounded)

module _ (pieces : List Piece) (n : Sizes) (sound : All IsPiece pieces) where
  pub in_order : ArePlaced 0 (of_class Ro pieces ++ (of_class Code pieces ++ (of_class Init pieces ++ (of_class Fini pieces ++ (of_class Relro pieces ++ (of_class Data pieces ++ of_class Bss pieces)))))) (addresses (names_end (parts_of pieces n) n) (of_class Ro pieces) ++ (addresses (stubs_end (parts_of pieces n) n) (of_class Code pieces) ++ (addresses (array_start (slots_end (parts_of pieces n) n) (of_class Init pieces)) (of_class Init pieces) ++ (addresses (array_start (init_end pieces (parts_of pieces n) n) (of_class Fini pieces)) (of_class Fini pieces) ++ (addresses (fini_end pieces (parts_of pieces n) n) (of_class Relro pieces) ++ (addresses (parts_of pieces n).data_start (of_class Data pieces) ++ addresses (parts_of pieces n).file_end (of_class Bss pieces)))))))
  in_order =
      let at = parts_of pieces n in
      let names = names_end at n in
      let stubs = stubs_end at n in
      let slots = slots_end at n in
      let init = array_start slots (of_class Init pieces) in
      let inits = init_end pieces at n in
      let fini = array_start inits (of_class Fini pieces) in
      let finis = fini_end pieces at n in
      let relro = last_end finis (of_class Relro pieces) in
      let code_before : at.ro_end ≤ stubs = omega arith in
      let table_before : at.code_end ≤ slots = omega arith in
      let init_before = array_above slots (of_class Init pieces) in
      let fini_before = array_above inits (of_class Fini pieces) in
      let data_before : relro ≤ at.data_start = range_above relro in
      ArePlaced-lower 0 names _ _ (omega arith)
      (ArePlaced-append names stubs (of_class Ro pieces) _ _ (class_aligned Ro pieces sound) code_before
      (ArePlaced-append stubs init (of_class Code pieces) _ _ (class_aligned Code pieces sound) (omega (arith, table_before, init_before))
      (ArePlaced-append init fini (of_class Init pieces) _ _ (class_aligned Init pieces sound) fini_before
      (ArePlaced-append fini finis (of_class Fini pieces) _ _ (class_aligned Fini pieces sound) (omega arith)
      (ArePlaced-append finis at.data_start (of_class Relro pieces) _ _ (class_aligned Relro pieces sound) data_before
      (ArePlaced-append at.data_start at.file_end (of_class Data pieces) _ _ (class_aligned Data pieces sound) (omega arith)
      (addresses-placed at.file_end (of_class Bss pieces) (class_aligned Bss pieces sound))))))))

-- in the order of the classes, all pieces are placed
pub all_placed : (pieces : List Piece) (n : Sizes) → All IsPiece pieces → InClassOrder pieces → ArePlaced 0 pieces (addresses_of pieces n)
all_placed pieces n sound order =
    subst (λ ps. ArePlaced 0 ps (addresses_of pieces n)) (sym order) (simp append_assoc (in_order pieces n sound))

addresses_count : (end : ℕ) (ps : List Piece) → length (addresses end ps) ≡ length ps
addresses_count end [] = refl
addresses_count end (p ∷ ps) = ap suc (addresses_count (end_after end p) ps)

-- and each has its address
pub all_counted : (pieces : List Piece) (n : Sizes) → InClassOrder pieces → length (addresses_of pieces n) ≡ length pieces
all_counted pieces n order = simp (length-append, addresses_count) (sym (ap length order ∙ simp length-append refl))

-- what is laid out so, and ends low, is a layout
pub is_laid : (rels : List RelObject) (pieces : PieceList) (n : Sizes) → All IsPiece pieces.all → InClassOrder pieces.all → (parts_of pieces.all n).mem_end ≤ 2 ^ 26 → IsLaid (laid_as rels pieces n)
is_laid rels pieces n sound order low = record {
  count = all_counted pieces.all n order;
  placed = all_placed pieces.all n sound order;
  low = low;
}
