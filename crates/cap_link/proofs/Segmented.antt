-- All pieces are segments of one class each, and where their addresses begin.
use Rattle.std.proofs.Common.{◌≡◌, ℕ, Bool, true, false, cond, List, [], ◌∷◌, ◌++◌, map, refl, sym, ap, ◌∙◌, subst, append_assoc, append-nil}
use Rattle.std.specs.Prelude.{filter}
use Rattle.std.specs.List.{cons_option, flat_map, enumerate_from, AllByRecursion}
use Rattle.cap_elf.specs.declared.records.Class.{Class}
use Rattle.cap_elf.specs.declared.records.Class.TheVariants.{Ro, Code, Init, Fini, Relro, Data, Bss, Dropped}
use Rattle.cap_elf.specs.declared.records.Section.{Section}
use Rattle.cap_elf.specs.Classes.{same_class, is_split}
use Rattle.cap_elf.specs.RelObject.{RelObject}
use Rattle.cap_syms.specs.declared.entries.Entry.{Entry}
use Rattle.cap_syms.specs.declared.entries.Shape.{Shape}
use Rattle.cap_syms.specs.declared.entries.Shape.TheVariants as shapes
use Rattle.cap_syms.specs.Resolved.{Resolved}
use Rattle.cap_layout.specs.declared.piece.Piece.{Piece}
use Rattle.cap_layout.specs.declared.parts.Sizes.{Sizes}
use Rattle.cap_layout.specs.Cuts.{intervals}
use Rattle.cap_layout.specs.Places.{addresses, of_class}
use Rattle.cap_layout.specs.Pieces.{section_pieces, split_piece, whole_piece, file_pieces, class_pieces, common_piece, common_pieces, all_pieces}
use Rattle.cap_layout.specs.Parts.{parts_of, addresses_of, names_end, stubs_end, slots_end, init_end, fini_end, array_start}
use Rattle.cap_link.proofs.Placing.{Segment, AreOf, IsSegment, joined, joined_addresses, AreFollowing, follow-joined, class-picked, all-both}

pub same-is : (k c : Class) → same_class k c ≡ true → k ≡ c
same-is Ro Ro h = refl
same-is Code Code h = refl
same-is Init Init h = refl
same-is Fini Fini h = refl
same-is Relro Relro h = refl
same-is Data Data h = refl
same-is Bss Bss h = refl
same-is Dropped Dropped h = refl
same-is _ _ h = absurd (cc)

all-of-map : {X : Type 0} (class : Class) (f : X → Piece) (xs : List X) → ((x : X) → (f x).class ≡ class) → AreOf class (map f xs)
all-of-map class f [] h = tt
all-of-map class f (x ∷ xs) h = (h x, all-of-map class f xs h)

all-of-flat : {X : Type 0} (class : Class) (f : X → List Piece) (xs : List X) → ((x : X) → AreOf class (f x)) → AreOf class (flat_map f xs)
all-of-flat class f [] h = tt
all-of-flat class f (x ∷ xs) h = all-both (λ (p : Piece). p.class ≡ class) (f x) (flat_map f xs) (h x) (all-of-flat class f xs h)

one-chosen : {X : Type 0} (class : Class) (b : Bool) (f : X → List Piece) (x : X) (xs : List X) → (b ≡ true → AreOf class (f x)) → AreOf class (flat_map f xs) → AreOf class (flat_map f (cond b (x ∷ xs) xs))
one-chosen class true f x xs h rest = all-both (λ (p : Piece). p.class ≡ class) (f x) (flat_map f xs) (h refl) rest
one-chosen class false f x xs h rest = rest

all-of-chosen : {X : Type 0} (class : Class) (test : X → Bool) (f : X → List Piece) (xs : List X) → ((x : X) → test x ≡ true → AreOf class (f x)) → AreOf class (flat_map f (filter test xs))
all-of-chosen class test f [] h = tt
all-of-chosen class test f (x ∷ xs) h = one-chosen class (test x) f x (filter test xs) (h x) (all-of-chosen class test f xs h)

one-section : (b : Bool) (class : Class) (object : RelObject) (file place : ℕ) (section : Section) → section.class ≡ class → AreOf class (cond b (map (split_piece file place section) (intervals object place)) (whole_piece file place section ∷ []))
one-section true class object file place section e = all-of-map class (split_piece file place section) (intervals object place) (λ _. e)
one-section false class object file place section e = (e, tt)

class-of-file : (class : Class) (object : RelObject) (file : ℕ) → AreOf class (file_pieces class object file)
class-of-file class object file =
    all-of-chosen class (λ (p : ℕ × Section). same_class p.1.class class) (λ (p : ℕ × Section). section_pieces object file p.0 p.1) (enumerate_from 0 object.sections)
    (λ p yes. one-section (is_split p.1.class) class object file p.0 p.1 (same-is p.1.class class yes))

pub class-of-all : (class : Class) (rels : List RelObject) → AreOf class (class_pieces rels class)
class-of-all class rels = all-of-flat class (λ (p : ℕ × RelObject). file_pieces class p.1 p.0) (enumerate_from 0 rels) (λ p. class-of-file class p.1 p.0)

class-of-one : (e : Entry) (shape : Shape) (ps : List Piece) → AreOf Bss ps → AreOf Bss (cons_option (common_piece e shape) ps)
class-of-one e shapes.Defined ps h = h
class-of-one e (shapes.Common size align) ps h = (refl, h)
class-of-one e (shapes.Absent weak) ps h = h

class-of-commons : (table : List Resolved) → AreOf Bss (common_pieces table)
class-of-commons [] = tt
class-of-commons (r ∷ rs) = class-of-one r.entry r.entry.shape (common_pieces rs) (class-of-commons rs)

abbrev pub segment : Class → ℕ → List Piece → Segment
segment class end ps = record { class = class; end = end; pieces = ps }

abbrev pub zero_pieces : List RelObject → List Resolved → List Piece
zero_pieces rels table = class_pieces rels Bss ++ common_pieces table

-- the segments, where these are the ends before each
abbrev pub segments : List RelObject → List Resolved → ℕ → ℕ → ℕ → ℕ → ℕ → ℕ → ℕ → List Segment
segments rels table ro code init fini relro written bss =
    segment Ro ro (class_pieces rels Ro)
    ∷ segment Code code (class_pieces rels Code)
    ∷ segment Init init (class_pieces rels Init)
    ∷ segment Fini fini (class_pieces rels Fini)
    ∷ segment Relro relro (class_pieces rels Relro)
    ∷ segment Data written (class_pieces rels Data)
    ∷ segment Bss bss (zero_pieces rels table)
    ∷ []

pub segments-are : (rels : List RelObject) (table : List Resolved) (ro code init fini relro written bss : ℕ) → AllByRecursion IsSegment (segments rels table ro code init fini relro written bss)
segments-are rels table ro code init fini relro written bss =
    (class-of-all Ro rels, (class-of-all Code rels, (class-of-all Init rels, (class-of-all Fini rels, (class-of-all Relro rels, (class-of-all Data rels, (all-both (λ (p : Piece). p.class ≡ Bss) (class_pieces rels Bss) (common_pieces table) (class-of-all Bss rels) (class-of-commons table), tt)))))))

nested-seven : {X : Type 0} (a b c d e f g h : List X) → (a ++ (b ++ (c ++ (d ++ (e ++ (f ++ (g ++ []))))))) ++ h ≡ a ++ (b ++ (c ++ (d ++ (e ++ (f ++ ((g ++ h) ++ []))))))
nested-seven a b c d e f g h = simp (append_assoc, append-nil) refl

pub pieces-are : (rels : List RelObject) (table : List Resolved) (ro code init fini relro written bss : ℕ) → all_pieces rels table ≡ joined (segments rels table ro code init fini relro written bss)
pieces-are rels table ro code init fini relro written bss =
    nested-seven (class_pieces rels Ro) (class_pieces rels Code) (class_pieces rels Init) (class_pieces rels Fini) (class_pieces rels Relro) (class_pieces rels Data) (class_pieces rels Bss) (common_pieces table)

nested-left : {X : Type 0} (a b c d e f g : List X) → ((((((a ++ b) ++ c) ++ d) ++ e) ++ f) ++ g) ≡ a ++ (b ++ (c ++ (d ++ (e ++ (f ++ (g ++ []))))))
nested-left a b c d e f g = simp (append_assoc, append-nil) refl

-- the ends before the pieces of each class
abbrev pub ro_from : List Piece → Sizes → ℕ
ro_from ps n = names_end (parts_of ps n) n

abbrev pub code_from : List Piece → Sizes → ℕ
code_from ps n = stubs_end (parts_of ps n) n

abbrev pub init_from : List Piece → Sizes → ℕ
init_from ps n = array_start (slots_end (parts_of ps n) n) (of_class Init ps)

abbrev pub fini_from : List Piece → Sizes → ℕ
fini_from ps n = array_start (init_end ps (parts_of ps n) n) (of_class Fini ps)

abbrev pub relro_from : List Piece → Sizes → ℕ
relro_from ps n = fini_end ps (parts_of ps n) n

abbrev pub segments_of : List RelObject → List Resolved → List Piece → Sizes → List Segment
segments_of rels table ps n =
    segments rels table (ro_from ps n) (code_from ps n) (init_from ps n) (fini_from ps n) (relro_from ps n) (parts_of ps n).data_start (parts_of ps n).file_end

-- the pieces of each class, picked by it
pub record ArePicked (ps : List Piece) (rels : List RelObject) (table : List Resolved) : Type 0 where
  pub ro : of_class Ro ps ≡ class_pieces rels Ro
  pub code : of_class Code ps ≡ class_pieces rels Code
  pub init : of_class Init ps ≡ class_pieces rels Init
  pub fini : of_class Fini ps ≡ class_pieces rels Fini
  pub relro : of_class Relro ps ≡ class_pieces rels Relro
  pub data_pieces : of_class Data ps ≡ class_pieces rels Data
  pub bss : of_class Bss ps ≡ zero_pieces rels table

pub picked-are : (rels : List RelObject) (table : List Resolved) (ps : List Piece) → ps ≡ all_pieces rels table → ArePicked ps rels table
picked-are rels table ps e =
    let ss = segments rels table 0 0 0 0 0 0 0 in
    let is : ps ≡ joined ss = e ∙ pieces-are rels table 0 0 0 0 0 0 0 in
    let h = segments-are rels table 0 0 0 0 0 0 0 in
    record {
      ro = ap (of_class Ro) is ∙ class-picked Ro ss h ∙ append-nil (class_pieces rels Ro);
      code = ap (of_class Code) is ∙ class-picked Code ss h ∙ append-nil (class_pieces rels Code);
      init = ap (of_class Init) is ∙ class-picked Init ss h ∙ append-nil (class_pieces rels Init);
      fini = ap (of_class Fini) is ∙ class-picked Fini ss h ∙ append-nil (class_pieces rels Fini);
      relro = ap (of_class Relro) is ∙ class-picked Relro ss h ∙ append-nil (class_pieces rels Relro);
      data_pieces = ap (of_class Data) is ∙ class-picked Data ss h ∙ append-nil (class_pieces rels Data);
      bss = ap (of_class Bss) is ∙ class-picked Bss ss h ∙ append-nil (zero_pieces rels table);
    }

seven-equal : {a b c d e f g a2 b2 c2 d2 e2 f2 g2 : List ℕ} → a ≡ a2 → b ≡ b2 → c ≡ c2 → d ≡ d2 → e ≡ e2 → f ≡ f2 → g ≡ g2 → ((((((a ++ b) ++ c) ++ d) ++ e) ++ f) ++ g) ≡ ((((((a2 ++ b2) ++ c2) ++ d2) ++ e2) ++ f2) ++ g2)
seven-equal h0 h1 h2 h3 h4 h5 h6 = cc

pub addresses-are : (rels : List RelObject) (table : List Resolved) (ps : List Piece) (n : Sizes) → ps ≡ all_pieces rels table → addresses_of ps n ≡ joined_addresses (segments_of rels table ps n)
addresses-are rels table ps n e =
    let p = picked-are rels table ps e in
    let at = parts_of ps n in
    let ro = addresses (ro_from ps n) (class_pieces rels Ro) in
    let code = addresses (code_from ps n) (class_pieces rels Code) in
    let init = addresses (init_from ps n) (class_pieces rels Init) in
    let fini = addresses (fini_from ps n) (class_pieces rels Fini) in
    let relro = addresses (relro_from ps n) (class_pieces rels Relro) in
    let written = addresses at.data_start (class_pieces rels Data) in
    let bss = addresses at.file_end (zero_pieces rels table) in
    let a0 : addresses (ro_from ps n) (of_class Ro ps) ≡ ro = ap (addresses (ro_from ps n)) p.ro in
    let a1 : addresses (code_from ps n) (of_class Code ps) ≡ code = ap (addresses (code_from ps n)) p.code in
    let a2 : addresses (init_from ps n) (of_class Init ps) ≡ init = ap (addresses (init_from ps n)) p.init in
    let a3 : addresses (fini_from ps n) (of_class Fini ps) ≡ fini = ap (addresses (fini_from ps n)) p.fini in
    let a4 : addresses (relro_from ps n) (of_class Relro ps) ≡ relro = ap (addresses (relro_from ps n)) p.relro in
    let a5 : addresses at.data_start (of_class Data ps) ≡ written = ap (addresses at.data_start) p.data_pieces in
    let a6 : addresses at.file_end (of_class Bss ps) ≡ bss = ap (addresses at.file_end) p.bss in
    seven-equal a0 a1 a2 a3 a4 a5 a6 ∙ nested-left ro code init fini relro written bss

-- the pieces of each class that stand in the file follow one another
pub record AreOrdered (ps : List Piece) (n : Sizes) (addresses : List ℕ) : Type 0 where
  pub ro : AreFollowing Ro (ro_from ps n) ps addresses
  pub code : AreFollowing Code (code_from ps n) ps addresses
  pub init : AreFollowing Init (init_from ps n) ps addresses
  pub fini : AreFollowing Fini (fini_from ps n) ps addresses
  pub relro : AreFollowing Relro (relro_from ps n) ps addresses
  pub data_pieces : AreFollowing Data (parts_of ps n).data_start ps addresses

pub ordered-are : (rels : List RelObject) (table : List Resolved) (ps : List Piece) (n : Sizes) (addresses : List ℕ) → ps ≡ all_pieces rels table → addresses ≡ addresses_of ps n → AreOrdered ps n addresses
ordered-are rels table ps n addresses e f =
    let at = parts_of ps n in
    let a = segment Ro (ro_from ps n) (class_pieces rels Ro) in
    let b = segment Code (code_from ps n) (class_pieces rels Code) in
    let c = segment Init (init_from ps n) (class_pieces rels Init) in
    let d = segment Fini (fini_from ps n) (class_pieces rels Fini) in
    let g = segment Relro (relro_from ps n) (class_pieces rels Relro) in
    let i = segment Data at.data_start (class_pieces rels Data) in
    let j = segment Bss at.file_end (zero_pieces rels table) in
    let ss = segments_of rels table ps n in
    let h = segments-are rels table (ro_from ps n) (code_from ps n) (init_from ps n) (fini_from ps n) (relro_from ps n) at.data_start at.file_end in
    let is : ps ≡ joined ss = e ∙ pieces-are rels table (ro_from ps n) (code_from ps n) (init_from ps n) (fini_from ps n) (relro_from ps n) at.data_start at.file_end in
    let its : addresses ≡ joined_addresses ss = f ∙ addresses-are rels table ps n e in
    let back : (class : Class) (end : ℕ) → AreFollowing class end (joined ss) (joined_addresses ss) → AreFollowing class end ps addresses =
    λ class end x. subst (λ (qs : List Piece). AreFollowing class end qs addresses) (sym is) (subst (λ (bs : List ℕ). AreFollowing class end (joined ss) bs) (sym its) x) in
    record {
      ro = back Ro (ro_from ps n) (follow-joined Ro [] a (b ∷ c ∷ d ∷ g ∷ i ∷ j ∷ []) h refl tt (refl, (refl, (refl, (refl, (refl, (refl, tt)))))));
      code = back Code (code_from ps n) (follow-joined Code (a ∷ []) b (c ∷ d ∷ g ∷ i ∷ j ∷ []) h refl (refl, tt) (refl, (refl, (refl, (refl, (refl, tt))))));
      init = back Init (init_from ps n) (follow-joined Init (a ∷ b ∷ []) c (d ∷ g ∷ i ∷ j ∷ []) h refl (refl, (refl, tt)) (refl, (refl, (refl, (refl, tt)))));
      fini = back Fini (fini_from ps n) (follow-joined Fini (a ∷ b ∷ c ∷ []) d (g ∷ i ∷ j ∷ []) h refl (refl, (refl, (refl, tt))) (refl, (refl, (refl, tt))));
      relro = back Relro (relro_from ps n) (follow-joined Relro (a ∷ b ∷ c ∷ d ∷ []) g (i ∷ j ∷ []) h refl (refl, (refl, (refl, (refl, tt)))) (refl, (refl, tt)));
      data_pieces = back Data at.data_start (follow-joined Data (a ∷ b ∷ c ∷ d ∷ g ∷ []) i (j ∷ []) h refl (refl, (refl, (refl, (refl, (refl, tt))))) (refl, tt));
    }
