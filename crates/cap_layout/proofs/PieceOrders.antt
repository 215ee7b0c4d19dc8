-- All pieces stand in order, and are parts of sections or common symbols.
use Rattle.std.proofs.Common.{◌≡◌, ℕ, ◌+◌, ◌-◌, ◌<◌, true, false, Option, List, [], ◌++◌, length, get_or, map, All, refl, sym, ap, ◌∙◌, subst, arith}
use Rattle.std.specs.List.{flat_map, AllByRecursion}
use Rattle.std.proofs.lemmas.List.{get_or_append_left, get_or-append_right, length-append, get_or-map}
use Rattle.std.proofs.lemmas.List.Elements.{All-from_recursion}
use Rattle.cap_elf.specs.declared.records.Class.{Class}
use Rattle.cap_elf.specs.declared.records.Class.TheVariants.{Dropped}
use Rattle.cap_elf.specs.RelObject.{RelObject, file_of, no_object, no_section}
use Rattle.cap_elf.specs.IsRelRead.{IsRelRead}
use Rattle.cap_syms.specs.Resolved.{Resolved}
use Rattle.cap_syms.specs.IsResolved.{IsResolved}
use Rattle.cap_layout.specs.declared.piece.Piece.{Piece}
use Rattle.cap_layout.specs.IsPiece.{IsPiece, IsPieceOf}
use Rattle.cap_layout.specs.Pieces.{PieceList, no_piece, class_pieces, class_order, common_pieces, entry_piece, piece_list}
use Rattle.cap_layout.specs.PieceOrder.{AreOrdered, Before, class_at, section_classes}
use Rattle.cap_layout.proofs.PieceLists.{each_append, each_weaker, sorted_at}
use Rattle.cap_layout.proofs.PieceAll.{IsIn, all_are}
use Rattle.cap_layout.proofs.PieceCommons.{commons_are}
use Rattle.cap_layout.proofs.PieceClasses.{in_class_order}

abbrev pub of_sections : List RelObject → List Piece
of_sections rels = flat_map (class_pieces rels) class_order

pub none_common : (rels : List RelObject) → All IsRelRead rels → All (λ p. p.common ≡ false) (of_sections rels)
none_common rels read = All-from_recursion (λ p. p.common ≡ false) (of_sections rels) (each_weaker (IsIn rels) (λ p. p.common ≡ false) (of_sections rels) (λ p h. h.common_not) (all_are rels read).0)

is_piece_of : (rels : List RelObject) (p : Piece) → IsIn rels p → IsPiece p × IsPieceOf rels p
is_piece_of rels p h = (h.piece, record { file = h.file; section = λ _. h.section; class = λ _. h.class; within = λ _. h.within; zeros = λ (yes : p.common ≡ true). let no : p.common ≡ false = h.common_not in absurd cc })

pub each_piece : (rels : List RelObject) (table : List Resolved) → All IsRelRead rels → IsResolved rels table → AllByRecursion (λ p. IsPiece p × IsPieceOf rels p) (of_sections rels ++ common_pieces table)
each_piece rels table read resolved =
    each_append (λ p. IsPiece p × IsPieceOf rels p) (of_sections rels) (common_pieces table)
    (each_weaker (IsIn rels) (λ p. IsPiece p × IsPieceOf rels p) (of_sections rels) (is_piece_of rels) (all_are rels read).0)
    (each_weaker (λ p. (p.common ≡ true) × (IsPiece p × IsPieceOf rels p)) (λ p. IsPiece p × IsPieceOf rels p) (common_pieces table) (λ p h. h.1) (commons_are rels table resolved))

pub all_pieces_are : (rels : List RelObject) (table : List Resolved) (all : List Piece) → All IsRelRead rels → IsResolved rels table → all ≡ of_sections rels ++ common_pieces table → All IsPiece all × All (IsPieceOf rels) all
all_pieces_are rels table all read resolved is =
    let each = each_piece rels table read resolved in
    let ps = of_sections rels ++ common_pieces table in
    subst (λ qs. All IsPiece qs × All (IsPieceOf rels) qs) (sym is) (
      All-from_recursion IsPiece ps (each_weaker (λ p. IsPiece p × IsPieceOf rels p) IsPiece ps (λ p h. h.0) each),
      All-from_recursion (IsPieceOf rels) ps (each_weaker (λ p. IsPiece p × IsPieceOf rels p) (IsPieceOf rels) ps (λ p h. h.1) each),
    )

class_found : (rels : List RelObject) (p : Piece) → IsIn rels p → p.class ≡ class_at (map section_classes rels) p.file p.place
class_found rels p h =
    sym (ap (λ cs. get_or cs p.place Dropped) (get_or-map section_classes rels p.file no_object [] h.file)
    ∙ get_or-map (λ s. s.class) (file_of rels p.file).sections p.place no_section Dropped h.section
    ∙ h.class)

pub ordered : (rels : List RelObject) (table : List Resolved) → All IsRelRead rels → IsResolved rels table → AreOrdered (of_sections rels ++ common_pieces table) (length (of_sections rels)) (map section_classes rels)
ordered rels table read resolved =
    let front = of_sections rels in
    let back = common_pieces table in
    let are = all_are rels read in
    let long : length (front ++ back) ≡ length front + length back = length-append front back in
    let at : (k : ℕ) → k < length front → get_or (front ++ back) k no_piece ≡ get_or front k no_piece = λ k lt. get_or_append_left front back no_piece k lt in
    let known : (k : ℕ) → k < length front → IsIn rels (get_or (front ++ back) k no_piece) = λ k lt.
    subst (IsIn rels) (sym (at k lt)) (All-from_recursion (IsIn rels) front are.0 k no_piece lt) in
    record {
      few = omega arith;
      pieces_are = (all_pieces_are rels table (front ++ back) read resolved refl).0;
      front = λ k lt. (known k lt).common_not;
      back = λ k le lt.
          let shifted : get_or (front ++ back) k no_piece ≡ get_or back (k - length front) no_piece = get_or-append_right front back (length front) k no_piece refl le in
          ap (λ p. p.common) shifted ∙ (All-from_recursion (λ p. (p.common ≡ true) × (IsPiece p × IsPieceOf rels p)) back (commons_are rels table resolved) (k - length front) no_piece (omega arith)).0;
      classes_are = λ k lt. class_found rels (get_or (front ++ back) k no_piece) (known k lt);
      grouped = in_class_order rels table read;
      ordered = λ i j lt inside. subst (λ p. Before p (get_or (front ++ back) j no_piece)) (sym (at i (omega arith))) (subst (Before (get_or front i no_piece)) (sym (at j inside)) (sorted_at Before front no_piece are.1 i j lt inside));
    }

pub are_ordered : (rels : List RelObject) (table : List Resolved) (all : List Piece) (sections : ℕ) (classes : List (List Class)) → All IsRelRead rels → IsResolved rels table → all ≡ of_sections rels ++ common_pieces table → sections ≡ length (of_sections rels) → classes ≡ map section_classes rels → AreOrdered all sections classes
are_ordered rels table all sections classes read resolved a s c =
    subst (λ ps. AreOrdered ps sections classes) (sym a) (subst (λ n. AreOrdered (of_sections rels ++ common_pieces table) n classes) (sym s) (subst (AreOrdered (of_sections rels ++ common_pieces table) (length (of_sections rels))) (sym c) (ordered rels table read resolved)))

pub list_is : (rels : List RelObject) (table : List Resolved) (r : PieceList) (front all : List Piece) (commons : List (Option ℕ)) → r ≡ record { all = all; commons = commons } → front ≡ of_sections rels → all ≡ front ++ common_pieces table → commons ≡ map (λ t. entry_piece (front ++ common_pieces table) t.entry t.entry.shape) table → r ≡ piece_list rels table
list_is rels table r front all commons is f a c =
    let made : List Piece → PieceList = λ ps. record { all = ps; commons = map (λ (t : Resolved). entry_piece ps t.entry t.entry.shape) table } in
    is ∙ ap (λ (ps : List Piece). record { all = ps; commons = commons }) a
    ∙ ap (λ (cs : List (Option ℕ)). record { all = front ++ common_pieces table; commons = cs }) c
    ∙ ap (λ (ps : List Piece). made (ps ++ common_pieces table)) f
