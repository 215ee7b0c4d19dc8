-- Each symbol that has bytes in a split section has the piece that is found at its value.
use Rattle.std.proofs.Common.{◌≡◌, inl, inr, ℕ, zero, suc, ◌+◌, ◌-◌, ◌<◌, ◌≤◌, true, ⊎_elim, List, [], ◌∷◌, ◌++◌, length, get_or, map, Option, Some, None, MatchOption, Result, Ok, Err, refl, sym, ap, ◌∙◌, subst, arith}
use Rattle.std.specs.Prelude.{◌==◌}
use Rattle.std.specs.List.{flat_map, enumerate_from, Contains, All}
use Rattle.std.proofs.lemmas.Bool.{cases_lt, cond-true, cond-false, ne_eqb, true≢false}
use Rattle.std.proofs.lemmas.List.{get_or_default, get_or_past, get_or_append_left, length-append, length-map, get_or-map}
use Rattle.std.proofs.lemmas.List.Elements.{Contains-append_left, Contains-append_right}
use Rattle.std.proofs.lemmas.List.FromFn.{length-enumerate_from}
use Rattle.cap_base.specs.Steps.{◌>>=◌, ◌>>◌, steps, each, in_file}
use Rattle.cap_base.specs.declared.refusal.Fault.{Fault}
use Rattle.cap_base.specs.declared.refusal.Refusal.{Refusal}
use Rattle.cap_elf.specs.declared.records.Class.{Class}
use Rattle.cap_elf.specs.declared.records.Class.TheVariants.{Ro, Code, Init, Fini, Relro, Data, Bss, Dropped}
use Rattle.cap_elf.specs.declared.records.Section.{Section}
use Rattle.cap_elf.specs.declared.records.Symbol.{Symbol}
use Rattle.cap_elf.specs.Classes.{is_split, same_class}
use Rattle.cap_elf.specs.IsRelRead.{IsRelRead}
use Rattle.cap_elf.specs.Records.{null_symbol}
use Rattle.cap_elf.specs.RelObject.{RelObject, file_of, section_of, symbol_of, no_object, no_section}
use Rattle.cap_elf.proofs.Passing.{then_passed}
use Rattle.cap_intervals.specs.Earlier.{first_against, NoneAgainst, IsFirstAgainst}
use Rattle.cap_intervals.proofs.Earlier.{first_against_is}
use Rattle.cap_syms.specs.IsResolved.{IsResolved}
use Rattle.cap_syms.specs.Resolved.{Resolved}
use Rattle.cap_layout.specs.declared.piece.Piece.{Piece}
use Rattle.cap_layout.specs.Cuts.{intervals, marks, overlaps, overlap_of, refuse_found, splits}
use Rattle.cap_layout.specs.Exact.{IsExactlyLaid, IsPieceOfSymbol, HasPiece, LayoutsAreExact, CutsArePieces}
use Rattle.cap_layout.specs.IsPiece.{IsPiece}
use Rattle.cap_layout.specs.Laid.{ArePiecesOf, ends_low, file_aligned, laid_as, lay_of}
use Rattle.cap_layout.specs.Parts.{padded_ends}
use Rattle.cap_layout.specs.PieceOrder.{rank, Before, class_at, section_classes, AreOrdered}
use Rattle.cap_layout.specs.Pieces.{PieceList, pieces_of, piece_list, piece_of, no_piece, piece_at, holds_offset, split_piece, whole_piece, section_pieces, file_pieces, class_pieces, class_order, common_pieces}
use Rattle.cap_layout.specs.Places.{InClassOrder}
use Rattle.cap_layout.proofs.CutMarks.{cut_facts, between_marks}
use Rattle.cap_layout.proofs.MarkBounds.{placed_within}
use Rattle.cap_layout.proofs.PieceAnswers.{where_is, holds, fails}
use Rattle.cap_layout.proofs.PieceFlats.{class_part, numbered_part, flat_filter, at_number}
use Rattle.cap_layout.proofs.PieceOrders.{of_sections, ordered, all_pieces_are}
use Rattle.cap_layout.proofs.PiecePairs.{pairs}
use Rattle.cap_layout.proofs.PieceSearch.{parts_of, of_section}
use Rattle.cap_layout.proofs.PlaceExact.{exactly_laid}

-- ---- what was accepted
passed_both : (r : Result (Unit {0}) Refusal) (f : Unit {0} → Result (Unit {0}) Refusal) → (r >>= f) ≡ Ok tt → (r ≡ Ok tt) × (f tt ≡ Ok tt)
passed_both (Ok tt) f h = (refl, h)
passed_both (Err e) f h = absurd (cc)

each_passed : {X : Type 0} (f : X → Result (Unit {0}) Refusal) (xs : List X) (k : ℕ) (d : X) → each f xs ≡ Ok tt → k < length xs → f (get_or xs k d) ≡ Ok tt
each_passed f [] k d h lt = absurd (omega (arith, lt))
each_passed f (x ∷ xs) zero d h lt = (passed_both (f x) (λ u. steps (λ _ y. f y) u xs) h).0
each_passed f (x ∷ xs) (suc k) d h lt = each_passed f xs k d (passed_both (f x) (λ u. steps (λ _ y. f y) u xs) h).1 (omega (arith, lt))

file_passed : (number : ℕ) (r : Result (Unit {0}) Fault) → in_file number r ≡ Ok tt → r ≡ Ok tt
file_passed number (Ok tt) h = refl
file_passed number (Err f) h = absurd (cc)

none_found : (o : Option Symbol) → refuse_found o ≡ Ok tt → o ≡ None
none_found None h = refl
none_found (Some s) h = absurd (cc)

-- no two cuts of an accepted file overlap
none_overlap : (object : RelObject) → overlap_of object ≡ Ok tt → NoneAgainst (overlaps object.sections) object.symbols
none_overlap object h =
    let test = overlaps object.sections in
    subst (λ (o : Option Symbol). MatchOption o (NoneAgainst test object.symbols) (IsFirstAgainst test object.symbols)) (none_found (first_against test object.symbols) h) (first_against_is test object.symbols)

module _ (rels : List RelObject) (table : List Resolved) (pieces : PieceList) (accepted : ArePiecesOf rels table pieces) where
  pub is_list : (each (λ (object : RelObject). in_file object.number (overlap_of object)) rels ≡ Ok tt) × (pieces ≡ piece_list rels table)
  unfolding pieces_of
  is_list =
      let passed = then_passed (each (λ (object : RelObject). in_file object.number (overlap_of object)) rels) (Ok (piece_list rels table)) pieces accepted in
      let same = passed.1 in
      let e : piece_list rels table ≡ pieces = cc in
      (passed.0, sym e)

  apart_in : (file : ℕ) → file < length rels → NoneAgainst (overlaps (file_of rels file).sections) (file_of rels file).symbols
  apart_in file lt =
      none_overlap (file_of rels file) (file_passed (file_of rels file).number (overlap_of (file_of rels file)) (each_passed (λ (object : RelObject). in_file object.number (overlap_of object)) rels file no_object is_list.0 lt))

-- ---- members of lists that are joined from parts
in_map : {X Y : Type 0} (f : X → Y) (xs : List X) (x : X) → Contains xs x → Contains (map f xs) (f x)
in_map f xs x c =
    (c.0, subst (λ n. c.0 < n) (sym (length-map xs f)) c.1, get_or-map f xs c.0 x (f x) c.1 ∙ ap f c.2)

in_flat : {X Y : Type 0} (f : X → List Y) (xs : List X) (x : X) (y : Y) → Contains xs x → Contains (f x) y → Contains (flat_map f xs) y
in_flat f [] x y (k, lt, is) h = absurd (omega (arith, lt))
in_flat f (z ∷ xs) x y (zero, lt, is) h = Contains-append_left (f z) (flat_map f xs) y (subst (λ w. Contains (f w) y) (sym is) h)
in_flat f (z ∷ xs) x y (suc k, lt, is) h = Contains-append_right (f z) (flat_map f xs) y (in_flat f xs x y (k, omega (arith, lt), is) h)

numbered : {X : Type 0} (xs : List X) (k : ℕ) (d : X) → k < length xs → Contains (enumerate_from 0 xs) (k, get_or xs k d)
numbered xs k d lt = (k, subst (λ n. k < n) (sym (length-enumerate_from 0 xs)) lt, at_number xs k d lt)

same_self : (class : Class) → same_class class class ≡ true
same_self Ro = refl
same_self Code = refl
same_self Init = refl
same_self Fini = refl
same_self Relro = refl
same_self Data = refl
same_self Bss = refl
same_self Dropped = refl

split_in_order : (class : Class) → is_split class ≡ true → Contains class_order class
split_in_order Ro h = (0, omega arith, refl)
split_in_order Relro h = (4, omega arith, refl)
split_in_order Data h = (5, omega arith, refl)
split_in_order Bss h = (6, omega arith, refl)
split_in_order Code h = absurd cc
split_in_order Init h = absurd cc
split_in_order Fini h = absurd cc
split_in_order Dropped h = absurd cc

-- the piece between neighbouring marks of a split section is one of the pieces of sections
module _ (rels : List RelObject) (file place : ℕ) (known : file < length rels) (inside : place < length (file_of rels file).sections) (split : is_split (section_of (file_of rels file) place).class ≡ true) (interval : ℕ × ℕ) where
  abbrev object : RelObject
  object = file_of rels file

  abbrev sec : Section
  sec = section_of object place

  abbrev cut : Piece
  cut = split_piece file place sec interval

  in_section : Contains (intervals object place) interval → Contains (section_pieces object file place sec) cut
  in_section c =
      subst (λ ps. Contains ps cut) (sym (cond-true (is_split sec.class) (map (split_piece file place sec) (intervals object place)) (whole_piece file place sec ∷ []) split))
      (in_map (split_piece file place sec) (intervals object place) interval c)

  in_part : Contains (intervals object place) interval → Contains (class_part sec.class object file (place, sec)) cut
  in_part c =
      subst (λ ps. Contains ps cut) (sym (cond-true (same_class sec.class sec.class) (section_pieces object file place sec) [] (same_self sec.class))) (in_section c)

  in_file_pieces : Contains (intervals object place) interval → Contains (file_pieces sec.class object file) cut
  in_file_pieces c =
      subst (λ ps. Contains ps cut) (flat_filter (λ (p : ℕ × Section). same_class p.1.class sec.class) (λ (p : ℕ × Section). section_pieces object file p.0 p.1) (enumerate_from 0 object.sections))
      (in_flat (class_part sec.class object file) (enumerate_from 0 object.sections) (place, sec) cut (numbered object.sections place no_section inside) (in_part c))

  in_class : Contains (intervals object place) interval → Contains (class_pieces rels sec.class) cut
  in_class c =
      in_flat (numbered_part sec.class) (enumerate_from 0 rels) (file, object) cut (numbered rels file no_object known) (in_file_pieces c)

  in_sections : Contains (intervals object place) interval → Contains (of_sections rels) cut
  in_sections c = in_flat (class_pieces rels) class_order sec.class cut (split_in_order sec.class split) (in_class c)

-- ---- the piece that is found
-- of two pieces of one section the later begins where the earlier ends, or behind
begins_behind : (p q : Piece) → Before p q → rank p.class ≡ rank q.class → p.file ≡ q.file → p.place ≡ q.place → p.start + p.size ≤ q.start
begins_behind p q (inl lt) r f s = absurd (omega (arith, lt, r))
begins_behind p q (inr (e, inl lt)) r f s = absurd (omega (arith, lt, f))
begins_behind p q (inr (e, inr (g, inl lt))) r f s = absurd (omega (arith, lt, s))
begins_behind p q (inr (e, inr (g, inr (m, h, k)))) r f s = h

past : (a b c : ℕ) → 0 < b → a + b ≤ c → c ≤ a → ⊥
past a b c some h k = omega (arith, some, h, k)

module _ (all : List Piece) (sections : ℕ) (classes : List (List Class)) (order : AreOrdered all sections classes) (k : ℕ) (front : k < sections) where
  class_is : (j : ℕ) → j < sections → (piece_of all j).file ≡ (piece_of all k).file → (piece_of all j).place ≡ (piece_of all k).place → rank (piece_of all k).class ≡ rank (piece_of all j).class
  class_is j lt f s =
      ap rank (order.classes_are k front
      ∙ ap (λ n. class_at classes n (piece_of all k).place) (sym f)
      ∙ ap (λ n. class_at classes (piece_of all j).file n) (sym s)
      ∙ sym (order.classes_are j lt))

  -- the piece is found at its own start
  pub found_at : (file section offset : ℕ) → k < length all → (piece_of all k).file ≡ file → (piece_of all k).place ≡ section → (piece_of all k).start ≡ offset → 0 < (piece_of all k).size → piece_at all file section offset ≡ Some k
  found_at file section offset inside f s o some =
      where_is (holds_offset file section offset) all k inside
      (holds file section offset offset (piece_of all k) (of_section file section (piece_of all k) (order.front k front) f s) (omega (arith, o)) (omega (arith, o)))
      (λ j lt bound. fails file section offset offset (piece_of all j) (λ h begins ends.
      let parts = parts_of file section (piece_of all j) h in
      let early : j < sections = ⊎_elim (λ (l : j < sections). l) (λ (le : sections ≤ j). absurd (true≢false (sym (order.back j le bound) ∙ parts.0))) (cases_lt j sections) in
      let same_file : (piece_of all j).file ≡ (piece_of all k).file = parts.1 ∙ sym f in
      let same_place : (piece_of all j).place ≡ (piece_of all k).place = parts.2 ∙ sym s in
      let behind = begins_behind (piece_of all k) (piece_of all j) (order.ordered k j lt early) (class_is j early same_file same_place) (sym same_file) (sym same_place) in
      past (piece_of all k).start (piece_of all k).size (piece_of all j).start some behind (subst (λ n. (piece_of all j).start ≤ n) (sym o) begins)))

split_inside : (secs : List Section) (n : ℕ) → splits secs n ≡ true → n < length secs
split_inside secs n split =
    ⊎_elim
    (λ (lt : n < length secs). lt)
    (λ (le : length secs ≤ n). absurd (true≢false (sym split ∙ ap (λ (s : Section). is_split s.class) (get_or_past secs n no_section le))))
    (cases_lt n (length secs))

pub cuts_are_pieces : CutsArePieces
cuts_are_pieces rels table pieces file section symbol read resolved accepted known inside cuts =
    let object = file_of rels file in
    let s = symbol_of object symbol in
    let sec = section_of object section in
    let interval : ℕ × ℕ = (s.value, s.value + s.size) in
    let facts = cut_facts object.sections s.size s.place section cuts in
    let own : IsRelRead object = read file no_object known in
    let placed = (own.symbols_are symbol (null_symbol 0) inside).placed in
    let high : s.value + s.size ≤ sec.size = placed_within object.sections s s.place section placed cuts in
    let some : sec.size ≡ 0 → ⊥ = λ e. empty s.value s.size sec.size facts.2 high e in
    let between = between_marks object section symbol (null_symbol 0) (apart_in rels table pieces accepted file known) inside cuts high in
    let among : Contains (intervals object section) interval = subst (λ ps. Contains ps interval) (sym (cond-false (sec.size == 0) ((0, 0) ∷ []) (pairs (marks object section)) (ne_eqb sec.size 0 some))) between in
    let at = in_sections rels file section known (split_inside object.sections section facts.1) facts.1 interval among in
    subst (λ (ps : List Piece). HasPiece rels ps file section s) (sym (ap (λ (l : PieceList). l.all) (is_list rels table pieces accepted).1))
    (has rels table file section s read resolved facts.2 at)
  where
    empty : (a b c : ℕ) → 0 < b → a + b ≤ c → c ≡ 0 → ⊥
    empty a b c some h e = omega (arith, some, h, e)

    length_of : (a b : ℕ) → a + b - a ≡ b
    length_of a b = omega arith

    has : (rels : List RelObject) (table : List Resolved) (file section : ℕ) (s : Symbol) → All IsRelRead rels → IsResolved rels table → 0 < s.size → Contains (of_sections rels) (split_piece file section (section_of (file_of rels file) section) (s.value, s.value + s.size)) → HasPiece rels (of_sections rels ++ common_pieces table) file section s
    has rels table file section s read resolved some (k, lt, is) =
        let front = of_sections rels in
        let all = front ++ common_pieces table in
        let p = split_piece file section (section_of (file_of rels file) section) (s.value, s.value + s.size) in
        let at : piece_of all k ≡ p = get_or_append_left front (common_pieces table) no_piece k lt ∙ get_or_default front k no_piece p lt ∙ is in
        let inside : k < length all = omega (arith, lt, length-append front (common_pieces table)) in
        let whole : p.size ≡ s.size = length_of s.value s.size in
        record {
          piece = k;
          inside = inside;
          found = found_at all (length front) (map section_classes rels) (ordered rels table read resolved) k lt file section s.value inside (ap (λ q. q.file) at) (ap (λ q. q.place) at) (ap (λ q. q.start) at) (subst (λ n. 0 < n) (sym (ap (λ q. q.size) at ∙ whole)) some);
          is = subst (IsPieceOfSymbol rels file section s) (sym at) (record { in_file = refl; in_section = refl; not_common = refl; class = refl; start = refl; size = whole });
        }

-- ---- layouts
pub layouts_are_exact : LayoutsAreExact
unfolding lay_of
layouts_are_exact rels table pieces sizes laid read resolved accepted said =
    let list = (is_list rels table pieces accepted).1 in
    let sound : All IsPiece pieces.all = (all_pieces_are rels table pieces.all read resolved (ap (λ (l : PieceList). l.all) list)).0 in
    let grouped = (ordered rels table read resolved).grouped in
    let first = then_passed (each ends_low (padded_ends pieces.all sizes)) (each (file_aligned (laid_as rels pieces sizes)) (enumerate_from 0 rels) >> Ok (laid_as rels pieces sizes)) laid said in
    let second = then_passed (each (file_aligned (laid_as rels pieces sizes)) (enumerate_from 0 rels)) (Ok (laid_as rels pieces sizes)) laid first.1 in
    let same = second.1 in
    let is : laid_as rels pieces sizes ≡ laid = cc in
    subst IsExactlyLaid is (exactly_laid rels pieces sizes sound (subst (λ (ps : List Piece). InClassOrder ps) (sym (ap (λ (l : PieceList). l.all) list)) grouped))
