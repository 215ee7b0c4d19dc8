-- Every piece has its bytes, and every step of the walk lies in its piece.
use Rattle.std.proofs.Common.{◌≡◌, ℕ, suc, ◌+◌, ◌≤◌, ◌<◌, Bool, true, false, not, List, [], ◌∷◌, ◌++◌, length, refl, sym, ap, ◌∙◌, subst, arith, Some, Result, Ok, Err}
use Rattle.std.specs.Prelude.{slice_index_or, nat_le, ◌&&◌, ◌==◌, ok_or}
use Rattle.std.specs.List.{flat_map, enumerate_from, AllByRecursion}
use Rattle.std.proofs.lemmas.List.Quantifiers.{position-Some}
use Rattle.cap_base.specs.Steps.{◌>>=◌, fault, steps, in_file}
use Rattle.cap_base.specs.declared.check.Check.TheVariants.{RelocationKind, RelocationOffset, RelocationSlot, Addend}
use Rattle.cap_base.specs.declared.refusal.Fault.{Fault}
use Rattle.cap_elf.specs.declared.records.Reloc.{Reloc}
use Rattle.cap_elf.specs.IsRelRead.{IsRelRead}
use Rattle.cap_elf.specs.RelObject.{RelObject, no_object, file_of, section_of}
use Rattle.cap_elf.proofs.Passing.{bind_passed, check_passed, choice_passed, some_passed, same_value}
use Rattle.cap_syms.specs.IsResolved.{IsResolved}
use Rattle.cap_syms.specs.Resolved.{Resolved}
use Rattle.cap_layout.proofs.PieceAll.{IsIn, all_are}
use Rattle.cap_layout.proofs.PieceCommons.{commons_are}
use Rattle.cap_layout.specs.IsPiece.{IsPiece, IsPieceOf}
use Rattle.cap_layout.specs.declared.piece.Piece.{Piece}
use Rattle.cap_layout.specs.Pieces.{class_pieces, common_pieces, class_order, all_pieces, no_piece, piece_of, is_of_section, holds_field, field_piece}
use Rattle.cap_table.proofs.BodyRoom.{padded_long}
use Rattle.cap_table.specs.declared.target.Step.{Step}
use Rattle.cap_table.specs.Kinds.{width_of, is_accepted, is_passed_over}
use Rattle.cap_table.specs.Targets.{Named, target_of}
use Rattle.cap_table.specs.Checks.{no_reloc, reloc_of, refuses_target, clashes, addend_passes, checked_piece, record_step, file_steps, walk_of}
use Rattle.cap_link.proofs.Placing.{all-both}
use Rattle.cap_link.proofs.Numbers.{all-weaker}
use Rattle.cap_link.proofs.Filling.{IsHeld, IsPlacedWith, IsPlacedStep, held-at, steps-keep, backward}
use Rattle.cap_link.proofs.Aligning.{HasPower}

-- ---- numbered lists
-- each member is what a function gives of its number, which is below a limit
enumerated : {X : Type 0} (f : ℕ → X) (d : X) (limit n : ℕ) (xs : List X) → n + length xs ≤ limit → ((k : ℕ) → k < length xs → f (n + k) ≡ slice_index_or xs k d) → AllByRecursion (λ p. (p.0 < limit) × (f p.0 ≡ p.1)) (enumerate_from n xs)
enumerated f d limit n [] le h = tt
enumerated f d limit n (x ∷ xs) le h =
    let here : n ≡ n + 0 = omega arith in (
      (omega (arith, le), ap f here ∙ h 0 (omega arith)),
      enumerated f d limit (n + 1) xs (omega (arith, le)) (λ k lt. let e : n + 1 + k ≡ n + suc k = omega arith in ap f e ∙ h (suc k) (omega (arith, lt))),
    )

all-numbered : {X : Type 0} (d : X) (xs : List X) → AllByRecursion (λ p. (p.0 < length xs) × (slice_index_or xs p.0 d ≡ p.1)) (enumerate_from 0 xs)
all-numbered d xs = enumerated (λ (k : ℕ). slice_index_or xs k d) d (length xs) 0 xs (omega arith) (λ k lt. let e : 0 + k ≡ k = omega arith in ap (λ (j : ℕ). slice_index_or xs j d) e)

pub first-true : (a b : Bool) → (a && b) ≡ true → a ≡ true
first-true true b h = refl
first-true false b h = h

pub second-true : (a b : Bool) → (a && b) ≡ true → b ≡ true
second-true true b h = h
second-true false b h = absurd (cc)

pub same-number : (n m : ℕ) → (n == m) ≡ true → n ≡ m
same-number n m h = grind arith

abbrev pub IsNumberedFile : List RelObject → ℕ × RelObject → Type 0
IsNumberedFile rels p = (p.0 < length rels) × (file_of rels p.0 ≡ p.1)

-- ---- pieces
abbrev pub IsFine : List RelObject → Piece → Type 0
IsFine rels p = IsHeld rels p × HasPower p

section-fine : (rels : List RelObject) (p : Piece) → AllByRecursion IsRelRead rels → IsIn rels p → IsFine rels p
section-fine rels p read h = (
  record {
    fits = padded_long p h.piece;
    kept = h.piece.kept;
    own = λ _. h.common_not;
    section = λ _. h.section;
    class = λ _. h.class;
    within = λ _. h.within;
    read = λ _. held-at IsRelRead rels p.file no_object h.file read;
  },
  h.piece.align_power,
)

common-fine : (rels : List RelObject) (p : Piece) → (p.common ≡ true) × (IsPiece p × IsPieceOf rels p) → IsFine rels p
common-fine rels p h =
    let common = h.0 in
    let zeros = h.1.1.zeros common in (
      record {
        fits = padded_long p h.1.0;
        kept = h.1.0.kept;
        own = λ e. absurd (cc);
        section = λ e. absurd (cc);
        class = λ e. absurd (cc);
        within = λ e. absurd (cc);
        read = λ e. absurd (cc);
      },
      h.1.0.align_power,
    )

pub pieces-held : (rels : List RelObject) (table : List Resolved) → AllByRecursion IsRelRead rels → IsResolved rels table → AllByRecursion (IsHeld rels) (all_pieces rels table) × AllByRecursion HasPower (all_pieces rels table)
pieces-held rels table read resolved =
    let own = flat_map (class_pieces rels) class_order in
    let all : AllByRecursion (IsFine rels) (all_pieces rels table) = all-both (IsFine rels) own (common_pieces table)
    (all-weaker (IsIn rels) (IsFine rels) own (λ p h. section-fine rels p read h) (all_are rels (backward IsRelRead rels read)).0)
    (all-weaker (λ (p : Piece). (p.common ≡ true) × (IsPiece p × IsPieceOf rels p)) (IsFine rels) (common_pieces table) (λ p h. common-fine rels p h) (commons_are rels table resolved)) in
    (all-weaker (IsFine rels) (IsHeld rels) (all_pieces rels table) (λ p h. h.0) all, all-weaker (IsFine rels) HasPower (all_pieces rels table) (λ p h. h.1) all)

-- ---- steps
abbrev pub passing : {A : Type 0} → A → Result A Fault
passing x = Ok x

pub at-most : (a b : ℕ) → nat_le a b ≡ true → a ≤ b
at-most a b h = grind arith

pub not-common : (b : Bool) → not b ≡ true → b ≡ false
not-common true h = absurd (cc)
not-common false h = refl

abbrev pub step_of : ℕ → ℕ → ℕ → Step
step_of file index piece = record { file = file; index = index; piece = piece }

piece-placed : (named : Named) (ps : List Piece) (file index i : ℕ) (r : Reloc) → AllByRecursion (IsHeld named.rels) ps → is_accepted (section_of (file_of named.rels file) r.section).class r.kind ≡ true
    → field_piece ps file r.section r.offset (width_of r.kind) ≡ Some i → IsPlacedWith named ps (step_of file index i) r
piece-placed named ps file index i r held accepted found =
    let width = width_of r.kind in
    let at = position-Some (holds_field file r.section r.offset width) ps i no_piece found in
    let p = piece_of ps i in
    let inside : holds_field file r.section r.offset width p ≡ true = at.1 in
    let of = is_of_section file r.section p in
    let front = first-true (of && nat_le p.start r.offset) (nat_le (r.offset + width) (p.start + p.size)) inside in
    let end = at-most (r.offset + width) (p.start + p.size) (second-true (of && nat_le p.start r.offset) (nat_le (r.offset + width) (p.start + p.size)) inside) in
    let start = at-most p.start r.offset (second-true of (nat_le p.start r.offset) front) in
    let section = first-true of (nat_le p.start r.offset) front in
    let pair = first-true (not p.common && p.file == file) (p.place == r.section) section in
    let place = same-number p.place r.section (second-true (not p.common && p.file == file) (p.place == r.section) section) in
    let own = not-common p.common (first-true (not p.common) (p.file == file) pair) in
    let number = same-number p.file file (second-true (not p.common) (p.file == file) pair) in
    let h = held-at (IsHeld named.rels) ps i no_piece at.0 held in
    let class : p.class ≡ (section_of (file_of named.rels file) r.section).class =
    sym (h.class own) ∙ ap (λ (k : ℕ). (section_of (file_of named.rels k) p.place).class) number ∙ ap (λ (k : ℕ). (section_of (file_of named.rels file) k).class) place in
    record { piece = at.0; accepted = accepted; class = class; start = start; end = end }

not-refused : (b : Bool) → not b ≡ false → b ≡ true
not-refused true h = refl
not-refused false h = absurd (cc)

checked-placed : (named : Named) (ps : List Piece) (file : ℕ) (p : ℕ × Reloc) (i : ℕ) → AllByRecursion (IsHeld named.rels) ps → checked_piece named ps file p ≡ Ok i → IsPlacedWith named ps (step_of file p.0 i) p.1
unfolding checked_piece
checked-placed named ps file p i held h =
    let object = file_of named.rels file in
    let t = target_of named file p.1.symbol in
    let accepted = is_accepted (section_of object p.1.section).class p.1.kind in
    let a = check_passed (not accepted) RelocationKind p.1.at _ i h in
    let b = bind_passed (ok_or (field_piece ps file p.1.section p.1.offset (width_of p.1.kind)) (fault RelocationOffset p.1.at)) _ i a.1 in
    let piece : ℕ = b.0 in
    let c = check_passed (refuses_target p.1.kind t) RelocationKind p.1.at _ i b.2 in
    let d = check_passed (clashes object.relocs p.0 p.1) RelocationSlot p.1.at _ i c.1 in
    let e = check_passed (not (addend_passes p.1.kind t p.1.addend)) Addend p.1.at (passing piece) i d.1 in
    let same : piece ≡ i = same_value piece i e.1 in
    let found = some_passed (field_piece ps file p.1.section p.1.offset (width_of p.1.kind)) (fault RelocationOffset p.1.at) piece b.1 in
    subst (λ (k : ℕ). IsPlacedWith named ps (step_of file p.0 k) p.1) same (piece-placed named ps file p.0 piece p.1 held (not-refused accepted a.0) found)

abbrev pub IsGoodStep : Named → List Piece → Step → Type 0
IsGoodStep named ps s = IsPlacedStep named ps s × (is_passed_over (reloc_of named.rels s).kind ≡ false)

record-kept : (named : Named) (ps : List Piece) (file : ℕ) (so_far : List Step) (p : ℕ × Reloc) (new : List Step) → AllByRecursion (IsHeld named.rels) ps → AllByRecursion (IsGoodStep named ps) so_far
    → slice_index_or (file_of named.rels file).relocs p.0 no_reloc ≡ p.1 → record_step named ps file so_far p ≡ Ok new → AllByRecursion (IsGoodStep named ps) new
unfolding record_step
record-kept named ps file so_far p new held good is h =
    choice_passed (is_passed_over p.1.kind) (passing so_far) (checked_piece named ps file p >>= λ piece. Ok (so_far ++ step_of file p.0 piece ∷ [])) (passing new) h
    (λ _ same. let e : so_far ≡ new = same_value so_far new same in subst (AllByRecursion (IsGoodStep named ps)) e good)
    (λ some made.
    let one = bind_passed (checked_piece named ps file p) (λ piece. Ok (so_far ++ step_of file p.0 piece ∷ [])) new made in
    let piece : ℕ = one.0 in
    let e : so_far ++ step_of file p.0 piece ∷ [] ≡ new = same_value (so_far ++ step_of file p.0 piece ∷ []) new one.2 in
    let placed : IsPlacedWith named ps (step_of file p.0 piece) p.1 = checked-placed named ps file p piece held one.1 in
    let last : IsGoodStep named ps (step_of file p.0 piece) = (
      subst (λ (r : Reloc). IsPlacedWith named ps (step_of file p.0 piece) r) (sym is) placed,
      ap (λ (r : Reloc). is_passed_over r.kind) is ∙ some,
    ) in
    subst (AllByRecursion (IsGoodStep named ps)) e (all-both (IsGoodStep named ps) so_far (step_of file p.0 piece ∷ []) good (last, tt)))

file-passed : {Y : Type 0} (number : ℕ) (r : Result Y Fault) (y : Y) → in_file number r ≡ Ok y → r ≡ Ok y
file-passed number (Ok x) y h = let e : x ≡ y = cc in ap passing e
file-passed number (Err f) y h = absurd (cc)

abbrev pub IsNumberedReloc : RelObject → ℕ × Reloc → Type 0
IsNumberedReloc object p = (p.0 < length object.relocs) × (slice_index_or object.relocs p.0 no_reloc ≡ p.1)

file-kept : (named : Named) (ps : List Piece) (so_far : List Step) (f : ℕ × RelObject) (new : List Step) → AllByRecursion (IsHeld named.rels) ps → AllByRecursion (IsGoodStep named ps) so_far → IsNumberedFile named.rels f
    → file_steps named ps so_far f ≡ Ok new → AllByRecursion (IsGoodStep named ps) new
unfolding file_steps
file-kept named ps so_far f new held good is h =
    let all = file-passed f.1.number (steps (record_step named ps f.0) so_far (enumerate_from 0 f.1.relocs)) new h in
    steps-keep (AllByRecursion (IsGoodStep named ps)) (IsNumberedReloc f.1) (record_step named ps f.0)
    (λ a p b x y e. record-kept named ps f.0 a p b held x (ap (λ (o : RelObject). slice_index_or o.relocs p.0 no_reloc) is.1 ∙ y.1) e)
    so_far (enumerate_from 0 f.1.relocs) new good (all-numbered no_reloc f.1.relocs) all

pub steps-placed : (named : Named) (ps : List Piece) (all : List Step) → AllByRecursion (IsHeld named.rels) ps → walk_of named ps ≡ Ok all → AllByRecursion (IsPlacedStep named ps) all × AllByRecursion (λ s. is_passed_over (reloc_of named.rels s).kind ≡ false) all
unfolding walk_of
steps-placed named ps all held h =
    let good = steps-keep (AllByRecursion (IsGoodStep named ps)) (IsNumberedFile named.rels) (file_steps named ps) (λ a f b x y e. file-kept named ps a f b held x y e) [] (enumerate_from 0 named.rels) all tt (all-numbered no_object named.rels) h in
    (all-weaker (IsGoodStep named ps) (IsPlacedStep named ps) all (λ s g. g.0) good, all-weaker (IsGoodStep named ps) (λ (s : Step). is_passed_over (reloc_of named.rels s).kind ≡ false) all (λ s g. g.1) good)
