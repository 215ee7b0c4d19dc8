-- The pieces of inputs stand class after class.
use Rattle.std.proofs.Common.{◌≡◌, ℕ, Bool, true, false, cond, if◌then◌else◌, List, [], ◌∷◌, ◌++◌, map, filter, refl, sym, ap, ◌∙◌, subst, append_assoc, append-nil}
use Rattle.std.specs.List.{flat_map, enumerate_from, cons_option}
use Rattle.std.proofs.lemmas.List.Elements.{filter-append}
use Rattle.cap_elf.proofs.Passing.{then_passed}
use Rattle.cap_elf.specs.declared.records.Class.{Class}
use Rattle.cap_elf.specs.declared.records.Class.TheVariants.{Ro, Code, Init, Fini, Relro, Data, Bss}
use Rattle.cap_elf.specs.declared.records.Section.{Section}
use Rattle.cap_elf.specs.Classes.{same_class, is_split}
use Rattle.cap_elf.specs.RelObject.{RelObject}
use Rattle.cap_syms.specs.declared.entries.Entry.{Entry}
use Rattle.cap_syms.specs.declared.entries.Shape.{Shape}
use Rattle.cap_syms.specs.declared.entries.Shape.TheVariants as shapes
use Rattle.cap_syms.specs.Resolved.{Resolved}
use Rattle.cap_layout.specs.declared.piece.Piece.{Piece}
use Rattle.cap_layout.specs.Cuts.{intervals}
use Rattle.cap_layout.specs.Pieces.{PieceList, split_piece, whole_piece, section_pieces, file_pieces, class_pieces, common_piece, common_pieces, class_order, all_pieces, piece_list, pieces_of}
use Rattle.cap_layout.specs.Places.{of_class}
use Rattle.cap_layout.specs.Laid.{ArePiecesOf}
use Rattle.cap_emit.proofs.Fits.{AreByClass, Alike, same_is}
use Rattle.cap_emit.proofs.Listed.{ok_same}

-- ---- pieces of one class
alike_append : (class : Class) (ps qs : List Piece) → Alike class ps → Alike class qs → Alike class (ps ++ qs)
alike_append class [] qs a b = b
alike_append class (p ∷ ps) qs a b = (a.0, alike_append class ps qs a.1 b)

alike_each : {X : Type 0} (class : Class) (f : X → List Piece) → ((x : X) → Alike class (f x)) → (xs : List X) → Alike class (flat_map f xs)
alike_each class f h [] = tt
alike_each class f h (x ∷ xs) = alike_append class (f x) (flat_map f xs) (h x) (alike_each class f h xs)

alike_cuts : (file place : ℕ) (section : Section) (cuts : List (ℕ × ℕ)) → Alike section.class (map (split_piece file place section) cuts)
alike_cuts file place section [] = tt
alike_cuts file place section (c ∷ cuts) = (refl, alike_cuts file place section cuts)

alike_either : (class : Class) (b : Bool) (ps qs : List Piece) → Alike class ps → Alike class qs → Alike class (if b then ps else qs)
alike_either class true ps qs a b = a
alike_either class false ps qs a b = b

alike_section : (object : RelObject) (file place : ℕ) (section : Section) → Alike section.class (section_pieces object file place section)
alike_section object file place section =
    alike_either section.class (is_split section.class) (map (split_piece file place section) (intervals object place)) (whole_piece file place section ∷ []) (alike_cuts file place section (intervals object place)) (refl, tt)

-- those of the sections that pass
alike_passed : (class : Class) (object : RelObject) (file : ℕ) (q : ℕ × Section) (rest : List (ℕ × Section)) (b : Bool) → same_class q.1.class class ≡ b → Alike class (flat_map (λ p. section_pieces object file p.0 p.1) rest) →
    Alike class (flat_map (λ p. section_pieces object file p.0 p.1) (cond b (q ∷ rest) rest))
alike_passed class object file q rest true e h =
    alike_append class (section_pieces object file q.0 q.1) (flat_map (λ p. section_pieces object file p.0 p.1) rest) (subst (λ c. Alike c (section_pieces object file q.0 q.1)) (same_is q.1.class class e) (alike_section object file q.0 q.1)) h
alike_passed class object file q rest false e h = h

alike_sections : (class : Class) (object : RelObject) (file : ℕ) (qs : List (ℕ × Section)) → Alike class (flat_map (λ p. section_pieces object file p.0 p.1) (filter (λ p. same_class p.1.class class) qs))
alike_sections class object file [] = tt
alike_sections class object file (q ∷ qs) = alike_passed class object file q (filter (λ p. same_class p.1.class class) qs) (same_class q.1.class class) refl (alike_sections class object file qs)

alike_pieces : (rels : List RelObject) (class : Class) → Alike class (class_pieces rels class)
alike_pieces rels class =
    alike_each class (λ p. file_pieces class p.1 p.0) (λ p. alike_sections class p.1 p.0 (enumerate_from 0 p.1.sections)) (enumerate_from 0 rels)

alike_common : (e : Entry) (shape : Shape) (rest : List Piece) → Alike Bss rest → Alike Bss (cons_option (common_piece e shape) rest)
alike_common e shapes.Defined rest h = h
alike_common e (shapes.Common size align) rest h = (refl, h)
alike_common e (shapes.Absent weak) rest h = h

alike_commons : (table : List Resolved) → Alike Bss (common_pieces table)
alike_commons [] = tt
alike_commons (r ∷ table) = alike_common r.entry r.entry.shape (common_pieces table) (alike_commons table)

-- ---- what is taken of them
taken_first : (b : Bool) (p : Piece) (ps : List Piece) → b ≡ true → cond b (p ∷ ps) ps ≡ p ∷ ps
taken_first true p ps e = refl
taken_first false p ps e = absurd cc

passed_over : (b : Bool) (p : Piece) (ps : List Piece) → b ≡ false → cond b (p ∷ ps) ps ≡ ps
passed_over true p ps e = absurd cc
passed_over false p ps e = refl

all_taken : (class : Class) → same_class class class ≡ true → (ps : List Piece) → Alike class ps → of_class class ps ≡ ps
all_taken class e [] h = refl
all_taken class e (p ∷ ps) h =
    taken_first (same_class p.class class) p (of_class class ps) (ap (λ c. same_class c class) h.0 ∙ e) ∙ ap (λ qs. p ∷ qs) (all_taken class e ps h.1)

none_taken : (class other : Class) → same_class other class ≡ false → (ps : List Piece) → Alike other ps → of_class class ps ≡ []
none_taken class other e [] h = refl
none_taken class other e (p ∷ ps) h =
    passed_over (same_class p.class class) p (of_class class ps) (ap (λ c. same_class c class) h.0 ∙ e) ∙ none_taken class other e ps h.1

abbrev OtherThan : Class → List Class → Type 0
OtherThan class [] = Unit {0}
OtherThan class (c ∷ cs) = (same_class c class ≡ false) × OtherThan class cs

others_left : (rels : List RelObject) (class : Class) (cs : List Class) → OtherThan class cs → of_class class (flat_map (class_pieces rels) cs) ≡ []
others_left rels class [] h = refl
others_left rels class (c ∷ cs) h =
    filter-append (λ p. same_class p.class class) (class_pieces rels c) (flat_map (class_pieces rels) cs)
    ∙ ap (λ ps. ps ++ of_class class (flat_map (class_pieces rels) cs)) (none_taken class c h.0 (class_pieces rels c) (alike_pieces rels c))
    ∙ others_left rels class cs h.1

one_left : (rels : List RelObject) (class : Class) (front back : List Class) → same_class class class ≡ true → OtherThan class front → OtherThan class back → of_class class (flat_map (class_pieces rels) (front ++ class ∷ back)) ≡ class_pieces rels class
one_left rels class [] back e f b =
    filter-append (λ p. same_class p.class class) (class_pieces rels class) (flat_map (class_pieces rels) back)
    ∙ ap (λ ps. of_class class (class_pieces rels class) ++ ps) (others_left rels class back b)
    ∙ append-nil (of_class class (class_pieces rels class))
    ∙ all_taken class e (class_pieces rels class) (alike_pieces rels class)
one_left rels class (c ∷ front) back e f b =
    let behind = flat_map (class_pieces rels) (front ++ class ∷ back) in
    filter-append (λ p. same_class p.class class) (class_pieces rels c) behind
    ∙ ap (λ ps. ps ++ of_class class behind) (none_taken class c f.0 (class_pieces rels c) (alike_pieces rels c))
    ∙ one_left rels class front back e f.1 b

-- a class of sections alone
plain_class : (rels : List RelObject) (table : List Resolved) (class : Class) (front back : List Class) → class_order ≡ front ++ class ∷ back → same_class class class ≡ true → same_class Bss class ≡ false → OtherThan class front → OtherThan class back → of_class class (all_pieces rels table) ≡ class_pieces rels class
plain_class rels table class front back is e n f b =
    let sections = flat_map (class_pieces rels) class_order in
    filter-append (λ p. same_class p.class class) sections (common_pieces table)
    ∙ ap (λ ps. of_class class sections ++ ps) (none_taken class Bss n (common_pieces table) (alike_commons table))
    ∙ append-nil (of_class class sections)
    ∙ ap (λ cs. of_class class (flat_map (class_pieces rels) cs)) is
    ∙ one_left rels class front back e f b

-- that of common symbols
last_class : (rels : List RelObject) (table : List Resolved) → of_class Bss (all_pieces rels table) ≡ class_pieces rels Bss ++ common_pieces table
last_class rels table =
    let sections = flat_map (class_pieces rels) class_order in
    filter-append (λ p. same_class p.class Bss) sections (common_pieces table)
    ∙ ap (λ ps. of_class Bss sections ++ ps) (all_taken Bss refl (common_pieces table) (alike_commons table))
    ∙ ap (λ ps. ps ++ common_pieces table) (one_left rels Bss (Ro ∷ Code ∷ Init ∷ Fini ∷ Relro ∷ Data ∷ []) [] refl (refl, (refl, (refl, (refl, (refl, (refl, tt)))))) tt)

seven_and_last : (a b c d e f g k : List Piece) → (a ++ (b ++ (c ++ (d ++ (e ++ (f ++ (g ++ []))))))) ++ k ≡ a ++ (b ++ (c ++ (d ++ (e ++ (f ++ ((g ++ k) ++ []))))))
seven_and_last a b c d e f g k =
    append_assoc a (b ++ (c ++ (d ++ (e ++ (f ++ (g ++ [])))))) k
    ∙ ap (λ x. a ++ x) (append_assoc b (c ++ (d ++ (e ++ (f ++ (g ++ []))))) k)
    ∙ ap (λ x. a ++ (b ++ x)) (append_assoc c (d ++ (e ++ (f ++ (g ++ [])))) k)
    ∙ ap (λ x. a ++ (b ++ (c ++ x))) (append_assoc d (e ++ (f ++ (g ++ []))) k)
    ∙ ap (λ x. a ++ (b ++ (c ++ (d ++ x)))) (append_assoc e (f ++ (g ++ [])) k)
    ∙ ap (λ x. a ++ (b ++ (c ++ (d ++ (e ++ x))))) (append_assoc f (g ++ []) k)
    ∙ ap (λ x. a ++ (b ++ (c ++ (d ++ (e ++ (f ++ (x ++ k))))))) (append-nil g)
    ∙ ap (λ x. a ++ (b ++ (c ++ (d ++ (e ++ (f ++ x)))))) (sym (append-nil (g ++ k)))

same_seven : (a b c d e f g a2 b2 c2 d2 e2 f2 g2 : List Piece) → a ≡ a2 → b ≡ b2 → c ≡ c2 → d ≡ d2 → e ≡ e2 → f ≡ f2 → g ≡ g2 → a ++ (b ++ (c ++ (d ++ (e ++ (f ++ (g ++ [])))))) ≡ a2 ++ (b2 ++ (c2 ++ (d2 ++ (e2 ++ (f2 ++ (g2 ++ []))))))
same_seven a b c d e f g a2 b2 c2 d2 e2 f2 g2 ha hb hc hd he hf hg = cc

all_by_class : (rels : List RelObject) (table : List Resolved) → AreByClass (all_pieces rels table)
all_by_class rels table =
    let ps = all_pieces rels table in
    let cp = class_pieces rels in
    let ro = plain_class rels table Ro [] (Code ∷ Init ∷ Fini ∷ Relro ∷ Data ∷ Bss ∷ []) refl refl refl tt (refl, (refl, (refl, (refl, (refl, (refl, tt)))))) in
    let code = plain_class rels table Code (Ro ∷ []) (Init ∷ Fini ∷ Relro ∷ Data ∷ Bss ∷ []) refl refl refl (refl, tt) (refl, (refl, (refl, (refl, (refl, tt))))) in
    let init = plain_class rels table Init (Ro ∷ Code ∷ []) (Fini ∷ Relro ∷ Data ∷ Bss ∷ []) refl refl refl (refl, (refl, tt)) (refl, (refl, (refl, (refl, tt)))) in
    let fini = plain_class rels table Fini (Ro ∷ Code ∷ Init ∷ []) (Relro ∷ Data ∷ Bss ∷ []) refl refl refl (refl, (refl, (refl, tt))) (refl, (refl, (refl, tt))) in
    let relro = plain_class rels table Relro (Ro ∷ Code ∷ Init ∷ Fini ∷ []) (Data ∷ Bss ∷ []) refl refl refl (refl, (refl, (refl, (refl, tt)))) (refl, (refl, tt)) in
    let written = plain_class rels table Data (Ro ∷ Code ∷ Init ∷ Fini ∷ Relro ∷ []) (Bss ∷ []) refl refl refl (refl, (refl, (refl, (refl, (refl, tt))))) (refl, tt) in
    seven_and_last (cp Ro) (cp Code) (cp Init) (cp Fini) (cp Relro) (cp Data) (cp Bss) (common_pieces table)
    ∙ same_seven (cp Ro) (cp Code) (cp Init) (cp Fini) (cp Relro) (cp Data) (cp Bss ++ common_pieces table) (of_class Ro ps) (of_class Code ps) (of_class Init ps) (of_class Fini ps) (of_class Relro ps) (of_class Data ps) (of_class Bss ps)
    (sym ro) (sym code) (sym init) (sym fini) (sym relro) (sym written) (sym (last_class rels table))

-- the pieces of inputs
pub by_class : (rels : List RelObject) (table : List Resolved) (pieces : PieceList) → ArePiecesOf rels table pieces → AreByClass pieces.all
unfolding pieces_of
by_class rels table pieces h =
    let made : piece_list rels table ≡ pieces = ok_same _ _ (then_passed _ _ pieces h).1 in
    subst (λ p. AreByClass p.all) made (all_by_class rels table)
