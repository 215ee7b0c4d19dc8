-- The pieces of all sections: what holds of each, and their order.
use Rattle.std.proofs.Common.{rules, ◌≡◌, ℕ, ◌+◌, ◌<◌, ◌≤◌, Bool, true, false, cond, inl, inr, List, [], length, All, refl, sym, ap, ◌∙◌, subst}
use Rattle.std.specs.List.{flat_map, enumerate_from, AllByRecursion}
use Rattle.cap_elf.specs.declared.records.Class.{Class}
use Rattle.cap_elf.specs.declared.records.Class.TheVariants.{Ro, Code, Init, Fini, Relro, Data, Bss, Dropped}
use Rattle.cap_elf.specs.declared.records.Section.{Section}
use Rattle.cap_elf.specs.Classes.{is_kept, same_class}
use Rattle.cap_elf.specs.RelObject.{RelObject, section_of, no_section, file_of, no_object}
use Rattle.cap_elf.specs.IsRelRead.{IsRelRead}
use Rattle.cap_layout.specs.declared.piece.Piece.{Piece}
use Rattle.cap_layout.specs.IsPiece.{IsPiece}
use Rattle.cap_layout.specs.Pieces.{section_pieces, file_pieces, class_pieces, class_order}
use Rattle.cap_layout.specs.PieceOrder.{rank, Before}
use Rattle.cap_layout.proofs.PieceFlats.{class_part, numbered_part, flat_filter}
use Rattle.cap_layout.proofs.PieceLists.{Sorted, sorted_flat, sorted_numbered, each_numbered, each_flat, each_weaker}
use Rattle.cap_layout.proofs.PieceFacts.{IsCut, AreCut, are_cut}

-- the piece is a part of a section of these inputs
pub record IsIn (rels : List RelObject) (p : Piece) : Type 0 where
  pub file : p.file < length rels
  pub section : p.place < length (file_of rels p.file).sections
  pub common_not : p.common ≡ false
  pub class : (section_of (file_of rels p.file) p.place).class ≡ p.class
  pub within : p.start + p.size ≤ (section_of (file_of rels p.file) p.place).size
  pub piece : IsPiece p

pub same_is : (a b : Class) → same_class a b ≡ true → a ≡ b
same_is Ro Ro h = refl
same_is Code Code h = refl
same_is Init Init h = refl
same_is Fini Fini h = refl
same_is Relro Relro h = refl
same_is Data Data h = refl
same_is Bss Bss h = refl
same_is Dropped Dropped h = refl
same_is _ _ h = absurd cc

in_of : (rels : List RelObject) (file place : ℕ) (p : Piece) → file < length rels → place < length (file_of rels file).sections → IsCut file place (section_of (file_of rels file) place) p → IsIn rels p
in_of rels file place p known inside is =
    let f : file ≡ p.file = sym is.file_is in
    let q : place ≡ p.place = sym is.place_is in
    let class : (section_of (file_of rels p.file) p.place).class ≡ p.class =
    ap (λ n. (section_of (file_of rels n) p.place).class) is.file_is ∙ ap (λ n. (section_of (file_of rels file) n).class) is.place_is ∙ sym is.class_is in
    let section : p.place < length (file_of rels p.file).sections =
    subst (λ n. p.place < length (file_of rels n).sections) f (subst (λ n. n < length (file_of rels file).sections) q inside) in
    let within : p.start + p.size ≤ (section_of (file_of rels p.file) p.place).size =
    subst (λ n. p.start + p.size ≤ (section_of (file_of rels n) p.place).size) f (subst (λ n. p.start + p.size ≤ (section_of (file_of rels file) n).size) q is.within) in
    record {
      file = subst (λ n. n < length rels) f known;
      section = section;
      common_not = is.common_not;
      class = class;
      within = within;
      piece = is.piece;
    }

-- ---- of one class in one file
abbrev InFile : List RelObject → Class → ℕ → Piece → Type 0
InFile rels class file p = (rank p.class ≡ rank class) × (p.file ≡ file) × IsIn rels p

abbrev PartIs : List RelObject → Class → ℕ → ℕ → List Piece → Type 0
PartIs rels class file place ps =
    AllByRecursion (λ p. (p.place ≡ place) × InFile rels class file p) ps × Sorted Before ps

part_at : (rels : List RelObject) (class : Class) (file place : ℕ) → is_kept class ≡ true → file < length rels → IsRelRead (file_of rels file) → place < length (file_of rels file).sections → (b : Bool) → same_class (section_of (file_of rels file) place).class class ≡ b → PartIs rels class file place (cond b (section_pieces (file_of rels file) file place (section_of (file_of rels file) place)) [])
part_at rels class file place kept known read inside false other = (tt, tt)
part_at rels class file place kept known read inside true same =
    let object = file_of rels file in
    let is : (section_of object place).class ≡ class = same_is (section_of object place).class class same in
    let cut : AreCut object file place (section_pieces object file place (section_of object place)) = are_cut object file place read inside (ap is_kept is ∙ kept) in (
      each_weaker (IsCut file place (section_of object place)) (λ p. (p.place ≡ place) × InFile rels class file p) (section_pieces object file place (section_of object place))
          (λ p h. (h.place_is, (ap rank (h.class_is ∙ is), h.file_is, in_of rels file place p known inside h))) cut.0,
      cut.1,
    )

next_place : (rels : List RelObject) (class : Class) (file : ℕ) (a b : Piece) → InFile rels class file a → InFile rels class file b → a.place < b.place → Before a b
next_place rels class file a b h k lt = inr (h.0 ∙ sym k.0, inr (h.1 ∙ sym k.1, inl lt))

abbrev FileIs : List RelObject → Class → ℕ → List Piece → Type 0
FileIs rels class file ps = AllByRecursion (InFile rels class file) ps × Sorted Before ps

file_are : (rels : List RelObject) (class : Class) (file : ℕ) → is_kept class ≡ true → file < length rels → IsRelRead (file_of rels file) → FileIs rels class file (file_pieces class (file_of rels file) file)
file_are rels class file kept known read =
    let object = file_of rels file in
    let part : ℕ × Section → List Piece = class_part class object file in
    let xs = enumerate_from 0 object.sections in
    let both : AllByRecursion (λ x. PartIs rels class file x.0 (part x)) xs =
    each_numbered (λ x. PartIs rels class file x.0 (part x)) object.sections no_section (λ k lt. part_at rels class file k kept known read lt (same_class (section_of object k).class class) refl) in
    let members : AllByRecursion (λ x. AllByRecursion (λ p. (p.place ≡ x.0) × InFile rels class file p) (part x)) xs =
    each_weaker (λ x. PartIs rels class file x.0 (part x)) (λ x. AllByRecursion (λ p. (p.place ≡ x.0) × InFile rels class file p) (part x)) xs (λ x h. h.0) both in
    let parts : AllByRecursion (λ x. Sorted Before (part x)) xs = each_weaker (λ x. PartIs rels class file x.0 (part x)) (λ x. Sorted Before (part x)) xs (λ x h. h.1) both in
    let each : AllByRecursion (InFile rels class file) (flat_map part xs) =
    each_flat (InFile rels class file) part xs (each_weaker (λ x. AllByRecursion (λ p. (p.place ≡ x.0) × InFile rels class file p) (part x)) (λ x. AllByRecursion (InFile rels class file) (part x)) xs (λ x h. each_weaker (λ p. (p.place ≡ x.0) × InFile rels class file p) (InFile rels class file) (part x) (λ p k. k.1) h) members) in
    let sorted : Sorted Before (flat_map part xs) =
    sorted_flat Before part xs (λ x. x.0) (λ p. p.place) (InFile rels class file) (sorted_numbered object.sections 0) members parts (next_place rels class file) in
    subst (FileIs rels class file) (flat_filter (λ (p : ℕ × Section). same_class p.1.class class) (λ (p : ℕ × Section). section_pieces object file p.0 p.1) xs) (each, sorted)

-- ---- of one class
abbrev pub InClass : List RelObject → Class → Piece → Type 0
InClass rels class p = (rank p.class ≡ rank class) × IsIn rels p

next_file : (rels : List RelObject) (class : Class) (a b : Piece) → InClass rels class a → InClass rels class b → a.file < b.file → Before a b
next_file rels class a b h k lt = inr (h.0 ∙ sym k.0, inl lt)

abbrev pub ClassIs : List RelObject → Class → List Piece → Type 0
ClassIs rels class ps = AllByRecursion (InClass rels class) ps × Sorted Before ps

pub class_are : (rels : List RelObject) (class : Class) → is_kept class ≡ true → All IsRelRead rels → ClassIs rels class (class_pieces rels class)
class_are rels class kept read =
    let part : ℕ × RelObject → List Piece = numbered_part class in
    let xs = enumerate_from 0 rels in
    let both : AllByRecursion (λ x. FileIs rels class x.0 (part x)) xs =
    each_numbered (λ x. FileIs rels class x.0 (part x)) rels no_object (λ k lt. file_are rels class k kept lt (read k no_object lt)) in
    let members : AllByRecursion (λ x. AllByRecursion (λ p. (p.file ≡ x.0) × InClass rels class p) (part x)) xs =
    each_weaker (λ x. FileIs rels class x.0 (part x)) (λ x. AllByRecursion (λ p. (p.file ≡ x.0) × InClass rels class p) (part x)) xs
    (λ x h. each_weaker (InFile rels class x.0) (λ p. (p.file ≡ x.0) × InClass rels class p) (part x) (λ p k. (k.1, (k.0, k.2))) h.0) both in
    let parts : AllByRecursion (λ x. Sorted Before (part x)) xs = each_weaker (λ x. FileIs rels class x.0 (part x)) (λ x. Sorted Before (part x)) xs (λ x h. h.1) both in
    let each : AllByRecursion (InClass rels class) (flat_map part xs) =
    each_flat (InClass rels class) part xs (each_weaker (λ x. AllByRecursion (λ p. (p.file ≡ x.0) × InClass rels class p) (part x)) (λ x. AllByRecursion (InClass rels class) (part x)) xs (λ x h. each_weaker (λ p. (p.file ≡ x.0) × InClass rels class p) (InClass rels class) (part x) (λ p k. k.1) h) members) in
    let sorted : Sorted Before (flat_map part xs) =
    sorted_flat Before part xs (λ x. x.0) (λ p. p.file) (InClass rels class) (sorted_numbered rels 0) members parts (next_file rels class) in
    (each, sorted)

-- ---- of all classes
next_class : (rels : List RelObject) (a b : Piece) → IsIn rels a → IsIn rels b → rank a.class < rank b.class → Before a b
next_class rels a b h k lt = inl lt

order_rises : Sorted (λ a b. rank a < rank b) class_order
order_rises = search rules

order_kept : AllByRecursion (λ class. is_kept class ≡ true) class_order
order_kept = search rules

abbrev pub AreIn : List RelObject → List Piece → Type 0
AreIn rels ps = AllByRecursion (IsIn rels) ps × Sorted Before ps

pub all_are : (rels : List RelObject) → All IsRelRead rels → AreIn rels (flat_map (class_pieces rels) class_order)
all_are rels read =
    let part : Class → List Piece = class_pieces rels in
    let both : AllByRecursion (λ class. ClassIs rels class (part class)) class_order =
    each_weaker (λ class. is_kept class ≡ true) (λ class. ClassIs rels class (part class)) class_order (λ class kept. class_are rels class kept read) order_kept in
    let members : AllByRecursion (λ class. AllByRecursion (InClass rels class) (part class)) class_order =
    each_weaker (λ class. ClassIs rels class (part class)) (λ class. AllByRecursion (InClass rels class) (part class)) class_order (λ class h. h.0) both in
    let parts : AllByRecursion (λ class. Sorted Before (part class)) class_order =
    each_weaker (λ class. ClassIs rels class (part class)) (λ class. Sorted Before (part class)) class_order (λ class h. h.1) both in (
      each_flat (IsIn rels) part class_order (each_weaker (λ class. AllByRecursion (InClass rels class) (part class)) (λ class. AllByRecursion (IsIn rels) (part class)) class_order (λ class h. each_weaker (InClass rels class) (IsIn rels) (part class) (λ p k. k.1) h) members),
      sorted_flat Before part class_order rank (λ p. rank p.class) (IsIn rels) order_rises members parts (next_class rels),
    )
