-- The pieces of each class stand together, in the order of the classes.
use Rattle.std.proofs.Common.{◌≡◌, Bool, true, false, cond, List, [], ◌∷◌, ◌++◌, All, refl, sym, ap, ◌∙◌, subst, append_assoc, append-nil}
use Rattle.std.specs.List.{flat_map, AllByRecursion}
use Rattle.std.proofs.lemmas.List.Elements.{filter-append}
use Rattle.cap_elf.specs.declared.records.Class.{Class}
use Rattle.cap_elf.specs.declared.records.Class.TheVariants.{Ro, Code, Init, Fini, Relro, Data, Bss, Dropped}
use Rattle.cap_elf.specs.Classes.{is_kept, same_class}
use Rattle.cap_elf.specs.RelObject.{RelObject}
use Rattle.cap_elf.specs.IsRelRead.{IsRelRead}
use Rattle.cap_syms.specs.Resolved.{Resolved}
use Rattle.cap_layout.specs.declared.piece.Piece.{Piece}
use Rattle.cap_layout.specs.Pieces.{class_pieces, class_order, common_pieces, all_pieces}
use Rattle.cap_layout.specs.Places.{of_class, InClassOrder}
use Rattle.cap_layout.specs.PieceOrder.{rank}
use Rattle.cap_layout.proofs.PieceAll.{InClass, class_are}
use Rattle.cap_layout.proofs.PieceCommons.{each_common}
use Rattle.cap_layout.proofs.PieceLists.{each_append, each_weaker, each_all}

abbrev Alike : Class → List Piece → Type 0
Alike class ps = AllByRecursion (λ p. p.class ≡ class) ps

-- ---- what is taken of pieces of one class
taken_first : (b : Bool) (p : Piece) (ps : List Piece) → b ≡ true → cond b (p ∷ ps) ps ≡ p ∷ ps
taken_first true p ps e = refl
taken_first false p ps e = absurd cc

passed_over : (b : Bool) (p : Piece) (ps : List Piece) → b ≡ false → cond b (p ∷ ps) ps ≡ ps
passed_over true p ps e = absurd cc
passed_over false p ps e = refl

all_taken : (class : Class) → same_class class class ≡ true → (ps : List Piece) → Alike class ps → of_class class ps ≡ ps
all_taken class e [] h = refl
all_taken class e (p ∷ ps) h =
    taken_first (same_class p.class class) p (of_class class ps) (ap (λ c. same_class c class) h.0 ∙ e) ∙ ap (λ qs. p ∷ qs) (all_taken class e ps h.1)

none_taken : (class other : Class) → same_class other class ≡ false → (ps : List Piece) → Alike other ps → of_class class ps ≡ []
none_taken class other e [] h = refl
none_taken class other e (p ∷ ps) h =
    passed_over (same_class p.class class) p (of_class class ps) (ap (λ c. same_class c class) h.0 ∙ e) ∙ none_taken class other e ps h.1

-- ---- parts, each of one class
abbrev OtherThan : Class → List Class → Type 0
OtherThan class cs = AllByRecursion (λ c. same_class c class ≡ false) cs

module _ (part : Class → List Piece) (alike : (class : Class) → Alike class (part class)) where
  others_left : (class : Class) (cs : List Class) → OtherThan class cs → of_class class (flat_map part cs) ≡ []
  others_left class [] h = refl
  others_left class (c ∷ cs) h =
      filter-append (λ p. same_class p.class class) (part c) (flat_map part cs)
      ∙ ap (λ ps. ps ++ of_class class (flat_map part cs)) (none_taken class c h.0 (part c) (alike c))
      ∙ others_left class cs h.1

  one_left : (class : Class) (front back : List Class) → same_class class class ≡ true → OtherThan class front → OtherThan class back → of_class class (flat_map part (front ++ class ∷ back)) ≡ part class
  one_left class [] back e f b =
      filter-append (λ p. same_class p.class class) (part class) (flat_map part back)
      ∙ ap (λ ps. of_class class (part class) ++ ps) (others_left class back b)
      ∙ append-nil (of_class class (part class))
      ∙ all_taken class e (part class) (alike class)
  one_left class (c ∷ front) back e f b =
      let behind = flat_map part (front ++ class ∷ back) in
      filter-append (λ p. same_class p.class class) (part c) behind
      ∙ ap (λ ps. ps ++ of_class class behind) (none_taken class c f.0 (part c) (alike c))
      ∙ one_left class front back e f.1 b

  same_seven : (a b c d e f g a2 b2 c2 d2 e2 f2 g2 : List Piece) → a2 ≡ a → b2 ≡ b → c2 ≡ c → d2 ≡ d → e2 ≡ e → f2 ≡ f → g2 ≡ g → a ++ (b ++ (c ++ (d ++ (e ++ (f ++ (g ++ [])))))) ≡ a2 ++ b2 ++ c2 ++ d2 ++ e2 ++ f2 ++ g2
  same_seven a b c d e f g a2 b2 c2 d2 e2 f2 g2 ha hb hc hd he hf hg =
      let joined : a ++ (b ++ (c ++ (d ++ (e ++ (f ++ (g ++ [])))))) ≡ a ++ b ++ c ++ d ++ e ++ f ++ g = simp (append_assoc, append-nil) refl in
      let same : a ++ b ++ c ++ d ++ e ++ f ++ g ≡ a2 ++ b2 ++ c2 ++ d2 ++ e2 ++ f2 ++ g2 = cc in
      joined ∙ same

  parts_in_order : InClassOrder (flat_map part class_order)
  parts_in_order =
      let ps = flat_map part class_order in
      let ro = one_left Ro [] (Code ∷ Init ∷ Fini ∷ Relro ∷ Data ∷ Bss ∷ []) refl tt (refl, (refl, (refl, (refl, (refl, (refl, tt)))))) in
      let code = one_left Code (Ro ∷ []) (Init ∷ Fini ∷ Relro ∷ Data ∷ Bss ∷ []) refl (refl, tt) (refl, (refl, (refl, (refl, (refl, tt))))) in
      let init = one_left Init (Ro ∷ Code ∷ []) (Fini ∷ Relro ∷ Data ∷ Bss ∷ []) refl (refl, (refl, tt)) (refl, (refl, (refl, (refl, tt)))) in
      let fini = one_left Fini (Ro ∷ Code ∷ Init ∷ []) (Relro ∷ Data ∷ Bss ∷ []) refl (refl, (refl, (refl, tt))) (refl, (refl, (refl, tt))) in
      let relro = one_left Relro (Ro ∷ Code ∷ Init ∷ Fini ∷ []) (Data ∷ Bss ∷ []) refl (refl, (refl, (refl, (refl, tt)))) (refl, (refl, tt)) in
      let written = one_left Data (Ro ∷ Code ∷ Init ∷ Fini ∷ Relro ∷ []) (Bss ∷ []) refl (refl, (refl, (refl, (refl, (refl, tt))))) (refl, tt) in
      let zeros = one_left Bss (Ro ∷ Code ∷ Init ∷ Fini ∷ Relro ∷ Data ∷ []) [] refl (refl, (refl, (refl, (refl, (refl, (refl, tt)))))) tt in
      same_seven (part Ro) (part Code) (part Init) (part Fini) (part Relro) (part Data) (part Bss) (of_class Ro ps) (of_class Code ps) (of_class Init ps) (of_class Fini ps) (of_class Relro ps) (of_class Data ps) (of_class Bss ps) ro code init fini relro written zeros

-- ---- the pieces of sections, and of common symbols
rank_is : (a b : Class) → rank a ≡ rank b → a ≡ b
rank_is Ro Ro h = refl
rank_is Code Code h = refl
rank_is Init Init h = refl
rank_is Fini Fini h = refl
rank_is Relro Relro h = refl
rank_is Data Data h = refl
rank_is Bss Bss h = refl
rank_is Dropped Dropped h = refl
rank_is _ _ h = absurd cc

class_alike : (rels : List RelObject) (class : Class) → is_kept class ≡ true → All IsRelRead rels → Alike class (class_pieces rels class)
class_alike rels class kept read =
    each_weaker (InClass rels class) (λ p. p.class ≡ class) (class_pieces rels class) (λ p h. rank_is p.class class h.0) (class_are rels class kept read).0

commons_alike : (table : List Resolved) → Alike Bss (common_pieces table)
commons_alike table = each_common (λ p. p.class ≡ Bss) table (each_all _ table (λ r size align e. refl))

-- common symbols are of the last class
abbrev part_of : List RelObject → List Resolved → Class → List Piece
part_of rels table Bss = class_pieces rels Bss ++ common_pieces table
part_of rels table Dropped = []
part_of rels table Ro = class_pieces rels Ro
part_of rels table Code = class_pieces rels Code
part_of rels table Init = class_pieces rels Init
part_of rels table Fini = class_pieces rels Fini
part_of rels table Relro = class_pieces rels Relro
part_of rels table Data = class_pieces rels Data

part_alike : (rels : List RelObject) (table : List Resolved) → All IsRelRead rels → (class : Class) → Alike class (part_of rels table class)
part_alike rels table read Ro = class_alike rels Ro refl read
part_alike rels table read Code = class_alike rels Code refl read
part_alike rels table read Init = class_alike rels Init refl read
part_alike rels table read Fini = class_alike rels Fini refl read
part_alike rels table read Relro = class_alike rels Relro refl read
part_alike rels table read Data = class_alike rels Data refl read
part_alike rels table read Bss =
    each_append (λ p. p.class ≡ Bss) (class_pieces rels Bss) (common_pieces table) (class_alike rels Bss refl read) (commons_alike table)
part_alike rels table read Dropped = tt

seven_and_last : (a b c d e f g k : List Piece) → (a ++ (b ++ (c ++ (d ++ (e ++ (f ++ (g ++ []))))))) ++ k ≡ a ++ (b ++ (c ++ (d ++ (e ++ (f ++ ((g ++ k) ++ []))))))
seven_and_last a b c d e f g k = simp (append_assoc, append-nil) refl

pub in_class_order : (rels : List RelObject) (table : List Resolved) → All IsRelRead rels → InClassOrder (all_pieces rels table)
in_class_order rels table read =
    let cp = class_pieces rels in
    let joined : all_pieces rels table ≡ flat_map (part_of rels table) class_order =
    seven_and_last (cp Ro) (cp Code) (cp Init) (cp Fini) (cp Relro) (cp Data) (cp Bss) (common_pieces table) in
    subst InClassOrder (sym joined) (parts_in_order (part_of rels table) (part_alike rels table read))
