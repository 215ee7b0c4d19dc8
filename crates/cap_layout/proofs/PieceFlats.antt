-- Lists that grow by the part of each item.
use Rattle.std.proofs.Common.{◌≡◌, ℕ, ◌+◌, ◌<◌, ◌≤◌, Bool, true, false, cond, List, [], ◌∷◌, ◌++◌, length, get_or, drop, map, refl, sym, ap, ◌∙◌, arith}
use Rattle.std.specs.Prelude.{filter}
use Rattle.std.specs.List.{flat_map, enumerate_from}
use Rattle.std.proofs.lemmas.List.{append_assoc, append-nil, drop_more, drop_all, get_or-map, get_or_default}
use Rattle.std.proofs.lemmas.List.FromFn.{get_or-enumerate_from, length-enumerate_from, get_or-map-range_with_len, length-map-range_with_len}
use Rattle.cap_elf.specs.declared.records.Class.{Class}
use Rattle.cap_elf.specs.declared.records.Class.TheVariants.{Ro}
use Rattle.cap_elf.specs.declared.records.Section.{Section}
use Rattle.cap_elf.specs.Classes.{same_class}
use Rattle.cap_elf.specs.RelObject.{RelObject, no_section}
use Rattle.cap_layout.specs.declared.piece.Piece.{Piece}
use Rattle.cap_layout.specs.Cuts.{marks}
use Rattle.cap_layout.specs.Marked.{cut_pieces, mark_lists}
use Rattle.cap_layout.specs.Pieces.{section_pieces, file_pieces}

pub flat_more : {X Y : Type 0} (f : X → List Y) (xs : List X) (i : ℕ) (x : X) (acc new total : List Y) → i < length xs → get_or xs i x ≡ x → new ≡ acc ++ f x → acc ++ flat_map f (drop i xs) ≡ total → new ++ flat_map f (drop (i + 1) xs) ≡ total
flat_more f xs i x acc new total lt at step so_far =
    ap (λ ys. ys ++ flat_map f (drop (i + 1) xs)) step
    ∙ append_assoc acc (f x) (flat_map f (drop (i + 1) xs))
    ∙ ap (λ y. acc ++ (f y ++ flat_map f (drop (i + 1) xs))) (sym at)
    ∙ ap (λ ys. acc ++ flat_map f ys) (sym (drop_more xs i x lt))
    ∙ so_far

pub flat_done : {X Y : Type 0} (f : X → List Y) (xs : List X) (i : ℕ) (acc total : List Y) → length xs ≤ i → acc ++ flat_map f (drop i xs) ≡ total → acc ≡ total
flat_done f xs i acc total le so_far = sym (append-nil acc) ∙ sym (ap (λ ys. acc ++ flat_map f ys) (drop_all i xs le)) ∙ so_far

flat_cond : {X Y : Type 0} (f : X → List Y) (b : Bool) (x : X) (xs : List X) → cond b (f x) [] ++ flat_map f xs ≡ flat_map f (cond b (x ∷ xs) xs)
flat_cond f true x xs = refl
flat_cond f false x xs = refl

-- the parts of those that pass a test
pub flat_filter : {X Y : Type 0} (test : X → Bool) (f : X → List Y) (xs : List X) → flat_map (λ x. cond (test x) (f x) []) xs ≡ flat_map f (filter test xs)
flat_filter test f [] = refl
flat_filter test f (x ∷ xs) = ap (λ ys. cond (test x) (f x) [] ++ ys) (flat_filter test f xs) ∙ flat_cond f (test x) x (filter test xs)

pub at_number : {X : Type 0} (xs : List X) (i : ℕ) (d : X) → i < length xs → get_or (enumerate_from 0 xs) i (i, get_or xs i d) ≡ (i, get_or xs i d)
at_number {X} xs i d lt =
    let e : 0 + i ≡ i = omega arith in
    get_or-enumerate_from 0 xs i (i, get_or xs i d) lt
    ∙ ap (λ (n : ℕ). (n, get_or xs i (get_or xs i d))) e
    ∙ ap (λ (x : X). (i, x)) (again xs i d lt)
  where
    again : {X : Type 0} (xs : List X) (i : ℕ) (d : X) → i < length xs → get_or xs i (get_or xs i d) ≡ get_or xs i d
    again {X} xs i d lt = get_or_default xs i (get_or xs i d) d lt

-- ---- the sections of a file
abbrev pub class_part : Class → RelObject → ℕ → ℕ × Section → List Piece
class_part class object file p = cond (same_class p.1.class class) (section_pieces object file p.0 p.1) []

pub file_step : (object : RelObject) (class : Class) (file place : ℕ) (sec : Section) (ms : List ℕ) (acc new total : List Piece) → place < length object.sections → sec ≡ get_or object.sections place no_section → ms ≡ marks object place → new ≡ acc ++ cond (same_class sec.class class) (cut_pieces file place sec ms) [] → acc ++ flat_map (class_part class object file) (drop place (enumerate_from 0 object.sections)) ≡ total → new ++ flat_map (class_part class object file) (drop (place + 1) (enumerate_from 0 object.sections)) ≡ total
file_step object class file place sec ms acc new total lt is own step so_far =
    flat_more (class_part class object file) (enumerate_from 0 object.sections) place (place, get_or object.sections place no_section) acc new total
    (omega (arith, length-enumerate_from 0 object.sections)) (at_number object.sections place no_section lt)
    (step ∙ ap (λ s. acc ++ cond (same_class s.class class) (cut_pieces file place s ms) []) is ∙ ap (λ m. acc ++ cond (same_class (get_or object.sections place no_section).class class) (cut_pieces file place (get_or object.sections place no_section) m) []) own)
    so_far

pub file_start : (object : RelObject) (class : Class) (file : ℕ) (acc : List Piece) → acc ++ flat_map (class_part class object file) (drop 0 (enumerate_from 0 object.sections)) ≡ acc ++ file_pieces class object file
file_start object class file acc =
    ap (λ ps. acc ++ ps) (flat_filter (λ (p : ℕ × Section). same_class p.1.class class) (λ (p : ℕ × Section). section_pieces object file p.0 p.1) (enumerate_from 0 object.sections))

-- ---- the files
abbrev pub numbered_part : Class → ℕ × RelObject → List Piece
numbered_part class p = file_pieces class p.1 p.0

pub class_step : (rels : List RelObject) (class : Class) (file : ℕ) (object : RelObject) (acc new total : List Piece) → file < length rels → object ≡ get_or rels file object → new ≡ acc ++ file_pieces class object file → acc ++ flat_map (numbered_part class) (drop file (enumerate_from 0 rels)) ≡ total → new ++ flat_map (numbered_part class) (drop (file + 1) (enumerate_from 0 rels)) ≡ total
class_step rels class file object acc new total lt is step so_far =
    flat_more (numbered_part class) (enumerate_from 0 rels) file (file, get_or rels file object) acc new total
    (omega (arith, length-enumerate_from 0 rels)) (at_number rels file object lt)
    (step ∙ ap (λ o. acc ++ file_pieces class o file) is)
    so_far

pub marks_at : (rels : List RelObject) (file : ℕ) (object : RelObject) (ms d : List (List ℕ)) → file < length rels → object ≡ get_or rels file object → ms ≡ get_or (map mark_lists rels) file ms → ms ≡ mark_lists object
marks_at rels file object ms d lt is at = at ∙ get_or-map mark_lists rels file object ms lt ∙ ap mark_lists (sym is)

pub marks_in : (object : RelObject) (ms : List (List ℕ)) (place : ℕ) → ms ≡ mark_lists object → place < length object.sections → place < length ms
marks_in object ms place is lt = rw is (omega (arith, length-map-range_with_len (marks object) 0 (length object.sections)))

pub marks_own : (object : RelObject) (all : List (List ℕ)) (place : ℕ) (ms : List ℕ) → all ≡ mark_lists object → ms ≡ get_or all place [] → place < length object.sections → ms ≡ marks object place
marks_own object all place ms is at lt =
    let e : 0 + place ≡ place = omega arith in
    at ∙ ap (λ ls. get_or ls place []) is ∙ get_or-map-range_with_len (marks object) 0 (length object.sections) place place [] lt e

-- what a read of a section gives
abbrev pub blank : Section
blank = record { class = Ro; size = 0; align = 0; offset = 0; at = 0 }

pub section_read : (object : RelObject) (secs : List Section) (place : ℕ) → secs ≡ object.sections → place < length object.sections → get_or secs place blank ≡ get_or object.sections place no_section
section_read object secs place is lt = ap (λ ss. get_or ss place blank) is ∙ get_or_default object.sections place blank no_section lt
