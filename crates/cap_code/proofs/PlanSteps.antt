-- What each step of a plan has: its relocation and its piece, in which its field lies.
use Rattle.std.proofs.Common.{◌≡◌, ℕ, ◌+◌, ◌-◌, ◌<◌, ◌≤◌, Bool, true, false, not, ◌&&◌, ◌||◌, ◌==◌, nat_le, nat_lt, ◌^◌, cond, List, [], ◌∷◌, ◌++◌, length, get_or, Option, Some, Result, Ok, Err, refl, sym, ap, ◌∙◌, subst, arith}
use Rattle.std.specs.Prelude.{All, ok_or}
use Rattle.std.specs.List.{enumerate_from}
use Rattle.std.proofs.lemmas.Bool.{and_parts, leb-true, eqb-true, both_ways, not-true, not-false}
use Rattle.std.proofs.lemmas.List.Elements.{All-head, All-tail, All-nil, All-push, All-get_or, All-from_get_or}
use Rattle.std.proofs.lemmas.List.FromFn.{length-enumerate_from, get_or-enumerate_from}
use Rattle.std.proofs.lemmas.List.Quantifiers.{position-Some}
use Rattle.cap_base.specs.declared.refusal.Fault.{Fault}
use Rattle.cap_base.specs.declared.refusal.Refusal.{Refusal}
use Rattle.cap_base.specs.Steps.{steps, in_file, refuse, fault}
use Rattle.cap_base.specs.declared.check.Check.TheVariants.{RelocationKind, RelocationOffset, RelocationSlot, Addend, SymbolCount, RelocationCount}
use Rattle.cap_elf.specs.declared.records.Class.{Class}
use Rattle.cap_elf.specs.declared.records.Class.TheVariants as classes
use Rattle.cap_elf.specs.declared.records.Reloc.{Reloc}
use Rattle.cap_elf.specs.Classes.{is_bss, is_split}
use Rattle.cap_elf.specs.RelObject.{RelObject, file_of, section_of, no_object}
use Rattle.cap_elf.proofs.Passing.{bind_passed, check_passed, then_passed, some_passed, choice_passed, same_value}
use Rattle.cap_layout.specs.declared.piece.Piece.{Piece}
use Rattle.cap_layout.specs.IsPiece.{IsPiece, IsPieceOf}
use Rattle.cap_layout.specs.Pieces.{piece_of, no_piece, field_piece, holds_field}
use Rattle.cap_conc.specs.Computed.{representable_length}
use Rattle.cap_conc.proofs.ComputedLemmas.{IsRepresentableLength-computed}
use Rattle.cap_table.specs.declared.target.Step.{Step}
use Rattle.cap_table.specs.Kinds.{is_passed_over, is_accepted, width_of}
use Rattle.cap_table.specs.Targets.{Named, target_of}
use Rattle.cap_table.specs.Checks.{no_reloc, reloc_of, checked_piece, record_step, file_steps, walk_of, refuses_target, clashes, addend_passes}
use Rattle.cap_table.specs.Planned.{Planned, planned, plan_of, IsPlanOf}
use Rattle.cap_table.specs.Bodies.{body_length}
use Rattle.cap_code.specs.Steps.{IsStep}

-- what each step of a list keeps, where something holds of its items
steps_keep_all : {E A X : Type 0} (f : A → X → Result A E) (P : A → Type 0) (Q : X → Type 0) → ((a : A) (x : X) (b : A) → Q x → P a → f a x ≡ Ok b → P b) → (a : A) (xs : List X) (b : A) → All Q xs → P a → steps f a xs ≡ Ok b → P b
steps_keep_all f P Q keep a [] b all p h = let e : a ≡ b = cc in subst P e p
steps_keep_all f P Q keep a (x ∷ xs) b all p h =
    let one = bind_passed (f a x) (λ c. steps f c xs) b h in
    steps_keep_all f P Q keep one.0 xs b (All-tail Q x xs all) (keep a x one.0 (All-head Q x xs all) p one.1) one.2

in_file_passed : {Y : Type 0} (file : ℕ) (r : Result Y Fault) (y : Y) → in_file file r ≡ Ok y → r ≡ Ok y
in_file_passed file (Ok z) y h = let e : z ≡ y = cc in ap Ok e
in_file_passed file (Err f) y h = absurd (cc)

-- an item with its number
record IsAt {X : Type 0} (xs : List X) (d : X) (p : ℕ × X) : Type 0 where
  below : p.0 < length xs
  item : get_or xs p.0 d ≡ p.1

each_at : {X : Type 0} (xs : List X) (d : X) → All (IsAt xs d) (enumerate_from 0 xs)
each_at xs d = All-from_get_or (IsAt xs d) (enumerate_from 0 xs) (0, d) (λ i lt.
    let below : i < length xs = omega (arith, lt, length-enumerate_from 0 xs) in
    let here : get_or (enumerate_from 0 xs) i (0, d) ≡ (0 + i, get_or xs i d) = get_or-enumerate_from 0 xs i (0, d) below in
    let zero : 0 + i ≡ i = omega arith in
    let there : get_or (enumerate_from 0 xs) i (0, d) ≡ (i, get_or xs i d) = here ∙ ap (λ n. (n, get_or xs i d)) zero in
    subst (IsAt xs d) (sym there) (record { below = below; item = refl }))

-- a kind that isn't passed over stands in a section that has bytes in the file
or_none : (x y : Bool) → (x || (y && false)) ≡ x
or_none true true = refl
or_none true false = refl
or_none false true = refl
or_none false false = refl

in_bytes : (class : Class) (kind : ℕ) → is_accepted class kind ≡ true → is_passed_over kind ≡ false → is_bss class ≡ false
in_bytes classes.Ro kind h p = refl
in_bytes classes.Code kind h p = refl
in_bytes classes.Init kind h p = refl
in_bytes classes.Fini kind h p = refl
in_bytes classes.Relro kind h p = refl
in_bytes classes.Data kind h p = refl
in_bytes classes.Bss kind h p = let e : is_passed_over kind ≡ true = simp or_none at h in absurd (both_ways (is_passed_over kind) p e)
in_bytes classes.Dropped kind h p = refl

-- a piece has its bytes in the place of its padded size
long : (p : Piece) → IsPiece p → is_bss p.class ≡ false → p.size ≤ body_length p
long p sound h =
    let whole : body_length p ≡ p.padded = ap (λ b. cond b 0 p.padded) h in
    let padded : p.size ≤ p.padded = subst (λ n. p.size ≤ n) (sym sound.padded) (either (is_split p.class) p.size) in
    omega (arith, whole, padded)
  where
    either : (b : Bool) (size : ℕ) → size ≤ cond b (representable_length size) size
    either true size = (IsRepresentableLength-computed size).enough
    either false size = omega arith

-- the piece that holds a field
record IsHeld (rels : List RelObject) (p : Piece) (in_file in_section offset width : ℕ) : Type 0 where
  own : p.common ≡ false
  file : p.file ≡ in_file
  section : p.place ≡ in_section
  behind : p.start ≤ offset
  inside : offset + width ≤ p.start + p.size

held_by : (rels : List RelObject) (p : Piece) (file section offset width : ℕ) → holds_field file section offset width p ≡ true → IsHeld rels p file section offset width
held_by rels p file section offset width h =
    let ends = and_parts (not p.common && p.file == file && p.place == section && nat_le p.start offset) (nat_le (offset + width) (p.start + p.size)) h in
    let begins = and_parts (not p.common && p.file == file && p.place == section) (nat_le p.start offset) ends.0 in
    let places = and_parts (not p.common && p.file == file) (p.place == section) begins.0 in
    let files = and_parts (not p.common) (p.file == file) places.0 in
    record {
      own = not-true p.common files.0;
      file = eqb-true p.file file files.1;
      section = eqb-true p.place section places.1;
      behind = leb-true p.start offset begins.1;
      inside = leb-true (offset + width) (p.start + p.size) ends.1;
    }

-- the section and the piece of a relocation that passed its checks
record IsChecked (named : Named) (pieces : List Piece) (file : ℕ) (r : Reloc) (piece : ℕ) : Type 0 where
  accepted : is_accepted (section_of (file_of named.rels file) r.section).class r.kind ≡ true
  found : field_piece pieces file r.section r.offset (width_of r.kind) ≡ Some piece

checked : (named : Named) (pieces : List Piece) (file : ℕ) (p : ℕ × Reloc) (piece : ℕ) → checked_piece named pieces file p ≡ Ok piece → IsChecked named pieces file p.1 piece
unfolding checked_piece
checked named pieces file p piece h =
    let object = file_of named.rels file in
    let t = target_of named file p.1.symbol in
    let kind = check_passed (not (is_accepted (section_of object p.1.section).class p.1.kind)) RelocationKind p.1.at _ piece h in
    let found = bind_passed (ok_or (field_piece pieces file p.1.section p.1.offset (width_of p.1.kind)) (fault RelocationOffset p.1.at)) _ piece kind.1 in
    let target = check_passed (refuses_target p.1.kind t) RelocationKind p.1.at _ piece found.2 in
    let slot = check_passed (clashes object.relocs p.0 p.1) RelocationSlot p.1.at _ piece target.1 in
    let addend = check_passed (not (addend_passes p.1.kind t p.1.addend)) Addend p.1.at _ piece slot.1 in
    let same : found.0 ≡ piece = same_value found.0 piece addend.1 in
    record {
      accepted = not-false (is_accepted (section_of object p.1.section).class p.1.kind) kind.0;
      found = some_passed (field_piece pieces file p.1.section p.1.offset (width_of p.1.kind)) (fault RelocationOffset p.1.at) piece (subst (λ n. ok_or (field_piece pieces file p.1.section p.1.offset (width_of p.1.kind)) (fault RelocationOffset p.1.at) ≡ Ok n) same found.1);
    }

-- what holds of the pieces of these inputs
record ArePieces (rels : List RelObject) (pieces : List Piece) : Type 0 where
  sound : All IsPiece pieces
  of_inputs : All (IsPieceOf rels) pieces

step_at : (named : Named) (pieces : List Piece) (file index piece : ℕ) → ArePieces named.rels pieces → file < length named.rels → index < length (file_of named.rels file).relocs → is_passed_over (reloc_of named.rels (record { file = file; index = index; piece = piece })).kind ≡ false → IsChecked named pieces file (reloc_of named.rels (record { file = file; index = index; piece = piece })) piece → IsStep named.rels pieces (record { file = file; index = index; piece = piece })
step_at named pieces file index piece are in_files in_relocs changes h =
    let r = reloc_of named.rels (record { file = file; index = index; piece = piece }) in
    let some = position-Some (holds_field file r.section r.offset (width_of r.kind)) pieces piece no_piece h.found in
    let p = piece_of pieces piece in
    let held : IsHeld named.rels p file r.section r.offset (width_of r.kind) = held_by named.rels p file r.section r.offset (width_of r.kind) some.1 in
    let sound : IsPiece p = All-get_or IsPiece pieces piece no_piece some.0 are.sound in
    let of : IsPieceOf named.rels p = All-get_or (IsPieceOf named.rels) pieces piece no_piece some.0 are.of_inputs in
    let class : (section_of (file_of named.rels p.file) p.place).class ≡ p.class = of.class held.own in
    let here : (section_of (file_of named.rels file) r.section).class ≡ p.class = subst (λ s. (section_of (file_of named.rels file) s).class ≡ p.class) held.section (subst (λ f. (section_of (file_of named.rels f) p.place).class ≡ p.class) held.file class) in
    let bytes : is_bss p.class ≡ false = subst (λ c. is_bss c ≡ false) here (in_bytes (section_of (file_of named.rels file) r.section).class r.kind h.accepted changes) in
    let size : p.size ≤ body_length p = long p sound bytes in
    record {
      file = in_files;
      index = in_relocs;
      piece = some.0;
      changes = changes;
      behind = held.behind;
      inside = fits r.offset p.start (width_of r.kind) p.size (body_length p) held.behind held.inside size;
    }
  where
    fits : (offset start width size whole : ℕ) → start ≤ offset → offset + width ≤ start + size → size ≤ whole → offset - start + width ≤ whole
    fits offset start width size whole behind inside le = omega arith

record_kept : (named : Named) (pieces : List Piece) (file : ℕ) → ArePieces named.rels pieces → file < length named.rels → (a : List Step) (p : ℕ × Reloc) (b : List Step) → IsAt (file_of named.rels file).relocs no_reloc p → All (IsStep named.rels pieces) a → record_step named pieces file a p ≡ Ok b → All (IsStep named.rels pieces) b
unfolding record_step
record_kept named pieces file are in_files a p b at all h =
    choice_passed (is_passed_over p.1.kind) (Ok a) _ (Ok b) h
    (λ _ same. let e : a ≡ b = cc in subst (All (IsStep named.rels pieces)) e all)
    (λ changes rest.
    let one = bind_passed (checked_piece named pieces file p) (λ piece. Ok (a ++ record { file = file; index = p.0; piece = piece } ∷ [])) b rest in
    let last : Step = record { file = file; index = p.0; piece = one.0 } in
    let is : p.1 ≡ reloc_of named.rels last = sym at.item in
    let here : IsStep named.rels pieces last = step_at named pieces file p.0 one.0 are in_files at.below (subst (λ r. is_passed_over r.kind ≡ false) is changes) (subst (λ r. IsChecked named pieces file r one.0) is (checked named pieces file p one.0 one.1)) in
    subst (All (IsStep named.rels pieces)) (ok_same (a ++ last ∷ []) b one.2) (All-push (IsStep named.rels pieces) a last all here))
  where
    ok : List Step → Result (List Step) Fault
    ok x = Ok x

    ok_same : (x y : List Step) → ok x ≡ ok y → x ≡ y
    ok_same x y e = cc

file_kept : (named : Named) (pieces : List Piece) → ArePieces named.rels pieces → (a : List Step) (f : ℕ × RelObject) (b : List Step) → IsAt named.rels no_object f → All (IsStep named.rels pieces) a → file_steps named pieces a f ≡ Ok b → All (IsStep named.rels pieces) b
unfolding file_steps
file_kept named pieces are a f b at all h =
    let passed = in_file_passed f.1.number (steps (record_step named pieces f.0) a (enumerate_from 0 f.1.relocs)) b h in
    let is : f.1 ≡ file_of named.rels f.0 = sym at.item in
    steps_keep_all (record_step named pieces f.0) (All (IsStep named.rels pieces)) (IsAt (file_of named.rels f.0).relocs no_reloc) (record_kept named pieces f.0 are at.below) a (enumerate_from 0 f.1.relocs) b (subst (λ o. All (IsAt o.relocs no_reloc) (enumerate_from 0 f.1.relocs)) is (each_at f.1.relocs no_reloc)) all passed

walked : (named : Named) (pieces : List Piece) → ArePieces named.rels pieces → (all : List Step) → walk_of named pieces ≡ Ok all → All (IsStep named.rels pieces) all
unfolding walk_of
walked named pieces are all h =
    steps_keep_all (file_steps named pieces) (All (IsStep named.rels pieces)) (IsAt named.rels no_object) (file_kept named pieces are) [] (enumerate_from 0 named.rels) all (each_at named.rels no_object) (All-nil (IsStep named.rels pieces)) h

steps_planned : (named : Named) (pieces : List Piece) (needed : List (List ℕ)) (soname : Option (List ℕ)) (all : List Step) → (planned named pieces needed soname all).steps ≡ all
unfolding planned
steps_planned named pieces needed soname all = refl

-- each step of a plan is there
pub plan_steps : (named : Named) (pieces : List Piece) (plan : Planned) → All IsPiece pieces → All (IsPieceOf named.rels) pieces → IsPlanOf named pieces plan → All (IsStep named.rels pieces) plan.steps
unfolding plan_of
plan_steps named pieces plan sound of_inputs is =
    let needed = is.0 in
    let soname = is.1 in
    let all = bind_passed (walk_of named pieces) _ plan is.2 in
    let made = planned named pieces needed soname all.0 in
    let symbols = then_passed (in_file 0 (refuse (nat_lt (2 ^ 20) made.sizes.symbols) SymbolCount 0)) _ plan all.2 in
    let relocs = then_passed (in_file 0 (refuse (nat_lt (2 ^ 20) (made.sizes.relas + made.sizes.cap_relocs)) RelocationCount 0)) _ plan symbols.1 in
    let same : made ≡ plan = ok_same made plan relocs.1 in
    let here : All (IsStep named.rels pieces) all.0 = walked named pieces (record { sound = sound; of_inputs = of_inputs }) all.0 all.1 in
    subst (λ (p : Planned). All (IsStep named.rels pieces) p.steps) same (subst (All (IsStep named.rels pieces)) (sym (steps_planned named pieces needed soname all.0)) here)
  where
    ok : Planned → Result Planned Refusal
    ok p = Ok p

    ok_same : (p q : Planned) → ok p ≡ ok q → p ≡ q
    ok_same p q e = cc
