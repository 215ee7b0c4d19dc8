-- Where fields lie in their pieces, and how long the bytes of pieces are.
use Rattle.std.proofs.Common.{◌≡◌, ℕ, zero, suc, ⊎_elim, take, drop, length-append, length-take, length-drop, ◌+◌, ◌-◌, ◌*◌, ◌<◌, ◌≤◌, Bool, true, false, cond, List, [], ◌∷◌, ◌++◌, length, map, replicate, refl, sym, ap, subst, ◌∙◌, arith}
use Rattle.std.specs.Prelude.{IsTrue, not, nat_le, ◌&&◌, ◌==◌, slice_index_or, slice_set}
use Rattle.std.proofs.lemmas.Bool.{and_parts, eqb-true, not-true, or_cases, true≢false}
use Rattle.std.proofs.lemmas.List.{length-map, length-replicate, take_all}
use Rattle.cap_conc.specs.Computed.{representable_length}
use Rattle.cap_conc.proofs.ComputedLemmas.{IsRepresentableLength-computed}
use Rattle.cap_elf.specs.declared.records.Class.{Class}
use Rattle.cap_elf.specs.declared.records.Class.TheVariants as classes
use Rattle.cap_elf.specs.Classes.{is_bss, is_split, is_kept}
use Rattle.cap_elf.specs.declared.records.Reloc.{Reloc}
use Rattle.cap_elf.specs.declared.records.Section.{Section}
use Rattle.cap_elf.specs.RelObject.{RelObject, file_of, section_of, has_content}
use Rattle.cap_layout.specs.declared.piece.Piece.{Piece}
use Rattle.cap_layout.specs.IsPiece.{IsPiece, IsPieceOf}
use Rattle.cap_layout.specs.Pieces.{piece_of}
use Rattle.std.specs.Prelude.{fold, filter, ℤ}
use Rattle.std.specs.List.{flat_map}
use Rattle.cap_table.specs.declared.target.Step.{Step}
use Rattle.cap_table.specs.declared.target.Target.{Target}
use Rattle.cap_table.specs.Planned.{Planned, is_field}
use Rattle.cap_table.specs.Kinds.{is_slot, is_accepted, width_of}
use Rattle.cap_table.specs.Targets.{Named}
use Rattle.cap_table.specs.Checks.{reloc_of, target_at}
use Rattle.cap_table.specs.Bodies.{BodiesValue, AreLong, body_length, put, put_in, piece_bytes, held, slot_held, with_held, offset_in_piece, zeros}
use Rattle.cap_table.specs.Facts.{IsStepOf, HasSource, first_held}
use Rattle.cap_table.proofs.BodyHeld.{held_capability, held_word, first_long, slots_long}

-- bytes made longer by zeros
pub padded_by : (old new : List ℕ) (count : ℕ) → new ≡ take (length old + count) old ++ replicate (length old + count - length old) 0 → new ≡ old ++ replicate count 0
padded_by old new count e =
    let left : length old + count - length old ≡ count = omega arith in
    e ∙ ap (λ (bytes : List ℕ). bytes ++ zeros (length old + count - length old)) (take_all (length old + count) old (omega arith)) ∙ ap (λ (n : ℕ). old ++ zeros n) left

-- padding doesn't shorten
pub padded_long : (p : Piece) → IsPiece p → p.size ≤ p.padded
padded_long p sound = go (is_split p.class) sound.padded
  where
    go : (b : Bool) → p.padded ≡ cond b (representable_length p.size) p.size → p.size ≤ p.padded
    go true e = omega (arith, e, (IsRepresentableLength-computed p.size).enough)
    go false e = omega (arith, e)

pub not_common : (common : Bool) (class : Class) → (common ≡ true → is_bss class ≡ true) → is_bss class ≡ false → common ≡ false
not_common true class zeros some = absurd (true≢false (sym (zeros refl) ∙ some))
not_common false class zeros some = refl

pub has_bytes_of : (s : Section) (class : Class) → s.class ≡ class → is_kept class ≡ true → is_bss class ≡ false → IsTrue (has_content s)
has_bytes_of s class e kept some = go (is_kept s.class) (is_bss s.class) (ap is_kept e ∙ kept) (ap is_bss e ∙ some)
  where
    go : (a b : Bool) → a ≡ true → b ≡ false → (a && not b) ≡ true
    go true false h k = refl
    go true true h k = absurd (true≢false k)
    go false b h k = absurd (true≢false (sym h))

pub source_of : (rels : List RelObject) (p : Piece) → IsPieceOf rels p → IsPiece p → is_bss p.class ≡ false → HasSource rels p
source_of rels p of_inputs sound some =
    let own = not_common p.common p.class of_inputs.zeros some in
    record {
      file = of_inputs.file;
      section = of_inputs.section own;
      some = some;
      content = has_bytes_of (section_of (file_of rels p.file) p.place) p.class (of_inputs.class own) sound.kept some;
      within = of_inputs.within own;
      end_high = sound.end_high;
      padded = padded_long p sound;
    }

-- a slot doesn't stand in a section without bytes
pub slot_has_bytes : (class : Class) (kind : ℕ) → is_slot kind ≡ true → is_accepted class kind ≡ true → is_bss class ≡ false
slot_has_bytes classes.Bss kind slot accepted =
    ⊎_elim
    (λ (h : (kind == 193) ≡ true). absurd (true≢false (sym (subst (λ (k : ℕ). is_accepted classes.Bss k ≡ true) (eqb-true kind 193 h) accepted))))
    (λ (h : (kind == 2) ≡ true). absurd (true≢false (sym (subst (λ (k : ℕ). is_accepted classes.Bss k ≡ true) (eqb-true kind 2 h) accepted))))
    (or_cases (kind == 193) (kind == 2) slot)
slot_has_bytes classes.Ro kind slot accepted = refl
slot_has_bytes classes.Code kind slot accepted = refl
slot_has_bytes classes.Init kind slot accepted = refl
slot_has_bytes classes.Fini kind slot accepted = refl
slot_has_bytes classes.Relro kind slot accepted = refl
slot_has_bytes classes.Data kind slot accepted = refl
slot_has_bytes classes.Dropped kind slot accepted = refl

pub at_most : (a b : ℕ) → nat_le a b ≡ true → a ≤ b
at_most a b h = grind arith

pub room_left : (start offset width size padded room : ℕ) → start ≤ offset → offset + width ≤ start + size → size ≤ padded → room ≡ padded → offset - start + width ≤ room
room_left start offset width size padded room a b c d = omega (arith, a, b, c, d)

-- the field of a step in its piece
pub record IsInPiece (pieces : List Piece) (s : Step) (r : Reloc) : Type 0 where
  pub start : (piece_of pieces s.piece).start ≤ r.offset
  pub room : r.offset - (piece_of pieces s.piece).start + width_of r.kind ≤ body_length (piece_of pieces s.piece)

pub in_piece : (named : Named) (pieces : List Piece) (s : Step) → IsStepOf named pieces s → IsPieceOf named.rels (piece_of pieces s.piece) → IsPiece (piece_of pieces s.piece) → is_slot (reloc_of named.rels s).kind ≡ true → IsInPiece pieces s (reloc_of named.rels s)
in_piece named pieces s step of_input is_sound slot =
    let r = reloc_of named.rels s in
    let p = piece_of pieces s.piece in
    let own = not p.common in
    let same_file = p.file == s.file in
    let same_place = p.place == r.section in
    let starts = nat_le p.start r.offset in
    let ends = nat_le (r.offset + width_of r.kind) (p.start + p.size) in
    let all = and_parts (own && same_file && same_place && starts) ends step.inside in
    let held = and_parts (own && same_file && same_place) starts all.0 in
    let here = and_parts (own && same_file) same_place held.0 in
    let from = and_parts own same_file here.0 in
    let place_is = eqb-true p.place r.section here.1 in
    let file_is = eqb-true p.file s.file from.1 in
    let not_shared = not-true p.common from.0 in
    let class_is = subst (λ (f : ℕ). (section_of (file_of named.rels f) r.section).class ≡ p.class) file_is (subst (λ (n : ℕ). (section_of (file_of named.rels p.file) n).class ≡ p.class) place_is (of_input.class not_shared)) in
    let some = subst (λ (c : Class). is_bss c ≡ false) class_is (slot_has_bytes (section_of (file_of named.rels s.file) r.section).class r.kind slot step.accepted) in
    let long : body_length p ≡ p.padded = ap (λ b. cond b 0 p.padded) some in
    let low : p.start ≤ r.offset = at_most p.start r.offset held.1 in
    let high : r.offset + width_of r.kind ≤ p.start + p.size = at_most (r.offset + width_of r.kind) (p.start + p.size) all.1 in
    record {
      start = low;
      room = room_left p.start r.offset (width_of r.kind) p.size p.padded (body_length p) low high (padded_long p is_sound) long;
    }

-- the same of an equal relocation
pub read_in_piece : (named : Named) (pieces : List Piece) (s : Step) (r : Reloc) → IsStepOf named pieces s → IsPieceOf named.rels (piece_of pieces s.piece) → IsPiece (piece_of pieces s.piece) → r ≡ reloc_of named.rels s → is_slot r.kind ≡ true → IsInPiece pieces s r
read_in_piece named pieces s r step of_input is_sound e slot =
    subst (IsInPiece pieces s) (sym e) (in_piece named pieces s step of_input is_sound (subst (λ (q : Reloc). is_slot q.kind ≡ true) e slot))

-- bytes as long as the pieces
pub long_at : (bodies : List (List ℕ)) (pieces : List Piece) (k : ℕ) → map length bodies ≡ map body_length pieces → k < length pieces → (k < length bodies) × (length (slice_index_or bodies k []) ≡ body_length (piece_of pieces k))
long_at [] [] k e lt = absurd (omega (arith, lt))
long_at [] (p ∷ ps) k e lt = absurd (cc)
long_at (b ∷ bs) [] k e lt = absurd (cc)
long_at (b ∷ bs) (p ∷ ps) zero e lt = let first : length b ≡ body_length p = cc in (omega arith, first)
long_at (b ∷ bs) (p ∷ ps) (suc k) e lt =
    let later : map length bs ≡ map body_length ps = cc in
    let rest = long_at bs ps k later (omega (arith, lt)) in
    (omega (arith, rest.0), rest.1)

-- bytes put in the place of others
pub put_long : (bytes : List ℕ) (at : ℕ) (with : List ℕ) → at + length with ≤ length bytes → length (put bytes at with) ≡ length bytes
put_long bytes at with inside =
    omega (arith, inside, length-append (take at bytes ++ with) (drop (at + length with) bytes), length-append (take at bytes) with, length-take at bytes, length-drop (at + length with) bytes)

pub set_long : (bodies : List (List ℕ)) (k : ℕ) (bytes : List ℕ) → length bytes ≡ length (slice_index_or bodies k []) → map length (slice_set bodies k bytes) ≡ map length bodies
set_long [] k bytes e = refl
set_long (b ∷ bs) zero bytes e = ap (λ n. n ∷ map length bs) e
set_long (b ∷ bs) (suc k) bytes e = ap (λ ns. length b ∷ ns) (set_long bs k bytes e)

pub put_in_long : (bodies after : List (List ℕ)) (k at : ℕ) (with : List ℕ) → after ≡ put_in bodies k at with → at + length with ≤ length (piece_bytes bodies k) → map length after ≡ map length bodies
put_in_long bodies after k at with e inside = ap (map length) e ∙ set_long bodies k (put (piece_bytes bodies k) at with) (put_long (piece_bytes bodies k) at with inside)

pub each_long : (bodies : List (List ℕ)) (pieces : List Piece) → map length bodies ≡ map body_length pieces → length bodies ≡ length pieces
each_long bodies pieces e = sym (length-map bodies length) ∙ ap length e ∙ length-map pieces body_length

-- what a field holds is as long as the field
pub held_long : (kind : ℕ) (t : Target) (addend : ℤ) → is_slot kind ≡ true → length (held kind t addend) ≡ width_of kind
held_long kind t addend slot =
    ⊎_elim
    (λ (h : (kind == 193) ≡ true). let e = eqb-true kind 193 h in ap length (held_capability kind t addend e) ∙ length-append (first_held t addend) (zeros 8) ∙ ap (λ n. n + 8) (first_long t addend) ∙ ap width_of (sym e))
    (λ (h : (kind == 2) ≡ true). let e = eqb-true kind 2 h in ap length (held_word kind t addend e) ∙ first_long t addend ∙ ap width_of (sym e))
    (or_cases (kind == 193) (kind == 2) slot)

-- one field more
pub held_step : (named : Named) (pieces : List Piece) (bodies : List (List ℕ)) (s : Step) → is_slot (reloc_of named.rels s).kind ≡ true → fold (with_held named pieces) bodies (filter (is_field named) (s ∷ [])) ≡ put_in bodies s.piece (offset_in_piece named.rels pieces s) (held (reloc_of named.rels s).kind (target_at named s) (reloc_of named.rels s).addend)
unfolding with_held
held_step named pieces bodies s slot = ap (λ b. fold (with_held named pieces) bodies (cond b (s ∷ []) [])) slot

pub are_long : (pieces : List Piece) (plan : Planned) (bodies : BodiesValue) → map length bodies.pieces ≡ map body_length pieces → bodies.stubs ≡ zeros (16 * length plan.stubs) → bodies.slots ≡ flat_map slot_held plan.slots → AreLong pieces plan bodies
are_long pieces plan bodies long stubs slots = record {
  count = each_long bodies.pieces pieces long;
  each = λ k lt. (long_at bodies.pieces pieces k long lt).1;
  stubs = ap length stubs ∙ length-replicate (16 * length plan.stubs) 0;
  slots = ap length slots ∙ slots_long plan.slots;
}
