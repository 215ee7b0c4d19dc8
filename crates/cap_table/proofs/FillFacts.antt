-- What follows of a plan that passed its checks, and of the layout that was made of it.
use Rattle.std.proofs.Common.{◌≡◌, ℕ, suc, ◌+◌, ◌^◌, ◌<◌, ◌≤◌, Bool, true, false, cond, List, [], ◌∷◌, ◌++◌, length, get_or, Option, Some, Result, Ok, Err, refl, sym, subst, ap, ◌∙◌, arith}
use Rattle.std.specs.Prelude.{All, IfOk, not, nat_lt, map, filter, slice_index_or, ok_or}
use Rattle.std.specs.List.{enumerate_from, position_from}
use Rattle.std.proofs.lemmas.Bool.{ltb-false, not-false}
use Rattle.std.proofs.lemmas.List.{get_or_default}
use Rattle.std.proofs.lemmas.List.Elements.{All-nil, All-cons, All-head, All-tail, All-push}
use Rattle.std.proofs.lemmas.List.FromFn.{length-enumerate_from, get_or-enumerate_from}
use Rattle.std.proofs.lemmas.Iterator.Adapters.{position_from-zero}
use Rattle.cap_base.specs.declared.check.Check.{Check}
use Rattle.cap_base.specs.declared.check.Check.TheVariants.{SymbolCount, RelocationCount, RelocationKind, RelocationOffset, RelocationSlot, Addend}
use Rattle.cap_base.specs.declared.refusal.Fault.{Fault}
use Rattle.cap_base.specs.Steps.{refuse, fault, steps, each, in_file}
use Rattle.cap_elf.specs.declared.records.Reloc.{Reloc}
use Rattle.cap_elf.specs.RelObject.{RelObject, file_of, section_of, no_object}
use Rattle.cap_elf.proofs.Passing.{bind_passed, check_passed, then_passed, some_passed, choice_passed}
use Rattle.cap_syms.specs.Resolved.{Resolved}
use Rattle.cap_layout.specs.declared.piece.Piece.{Piece}
use Rattle.cap_layout.specs.declared.parts.Sizes.{Sizes}
use Rattle.cap_layout.specs.Pieces.{PieceList, piece_of, field_piece, holds_field, no_piece}
use Rattle.cap_elf.specs.declared.records.Class.TheVariants.{Ro, Code, Init, Fini, Relro, Data, Bss}
use Rattle.cap_layout.specs.Places.{ends, of_class}
use Rattle.cap_layout.specs.Parts.{padded_ends, parts_of, names_end, slots_end, stubs_end, init_end, fini_end, array_start}
use Rattle.cap_layout.specs.Points.{Laid}
use Rattle.cap_layout.specs.Laid.{ends_low, laid_as, file_aligned, lay_of, IsLayoutOf}
use Rattle.cap_table.specs.declared.target.Step.{Step}
use Rattle.cap_table.specs.Kinds.{is_passed_over, is_accepted, width_of}
use Rattle.cap_table.specs.Targets.{Named, target_of}
use Rattle.cap_table.specs.Checks.{no_reloc, reloc_of, checked_piece, record_step, file_steps, walk_of, refuses_target, clashes, addend_passes}
use Rattle.cap_table.specs.Planned.{Planned, planned, sizes_of, plan_of, exported, is_exported, IsPlanOf}
use Rattle.cap_table.specs.Lists.{CapTableValue, filled, AreListsOf}
use Rattle.cap_table.specs.Facts.{IsStepOf, ArePlanned}

-- what each step keeps, where each item is of a kind
pub steps_keep_of : {E A X : Type 0} (f : A → X → Result A E) (P : A → Type 0) (Q : X → Type 0) → ((a : A) (x : X) (b : A) → P a → Q x → f a x ≡ Ok b → P b) → (a : A) (xs : List X) (b : A) → P a → All Q xs → steps f a xs ≡ Ok b → P b
steps_keep_of f P Q keep a [] b p q h = let e : a ≡ b = cc in subst P e p
steps_keep_of f P Q keep a (x ∷ xs) b p q h =
    let one = bind_passed (f a x) (λ c. steps f c xs) b h in
    steps_keep_of f P Q keep one.0 xs b (keep a x one.0 p (All-head Q x xs q) one.1) (All-tail Q x xs q) one.2

-- each item of a list stands at its number
abbrev pub StandsIn : {X : Type 0} → List X → X → ℕ × X → Type 0
StandsIn xs d p = (p.0 < length xs) × (slice_index_or xs p.0 d ≡ p.1)

pub stand_in : {X : Type 0} (xs : List X) (d : X) → All (StandsIn xs d) (enumerate_from 0 xs)
stand_in xs d = λ k e lt.
    let below : k < length xs = omega (arith, length-enumerate_from 0 xs) in
    let zero : 0 + k ≡ k = omega arith in
    subst (StandsIn xs d) (sym (get_or-enumerate_from 0 xs k e below ∙ ap (λ n. (n, get_or xs k e.1)) zero)) (below, get_or_default xs k d e.1 below)

pub file_passed : {Y : Type 0} (file : ℕ) (r : Result Y Fault) (y : Y) → in_file file r ≡ Ok y → r ≡ Ok y
file_passed file (Ok x) y h = let e : x ≡ y = cc in ap Ok e
file_passed file (Err f) y h = absurd (cc)

pub refused_not : (fails : Bool) (check : Check) (at : ℕ) (u : Unit {0}) → refuse fails check at ≡ Ok u → fails ≡ false
refused_not true check at u h = absurd (cc)
refused_not false check at u h = refl

-- the first that passes is in the list, and passes
pub first_passes : {X : Type 0} (p : X → Bool) (i : ℕ) (xs : List X) (d : X) (k : ℕ) → position_from p i xs ≡ Some k → (j : ℕ) × (k ≡ i + j) × (j < length xs) × (p (get_or xs j d) ≡ true)
first_passes p i [] d k h = absurd (cc)
first_passes p i (x ∷ xs) d k h = choice_passed (p x) (Some i) (position_from p (i + 1) xs) (Some k) h
    (λ here same. let e : i ≡ k = cc in (0, omega (arith, e), omega arith, here))
    (λ _ later. let rest = first_passes p (i + 1) xs d k later in (suc rest.0, omega (arith, rest.1), omega (arith, rest.2), rest.3))

-- the field of a relocation that passed its checks
pub checked : (named : Named) (pieces : List Piece) (file : ℕ) (p : ℕ × Reloc) (piece : ℕ) → checked_piece named pieces file p ≡ Ok piece → (is_accepted (section_of (file_of named.rels file) p.1.section).class p.1.kind ≡ true) × (field_piece pieces file p.1.section p.1.offset (width_of p.1.kind) ≡ Some piece)
unfolding checked_piece
checked named pieces file p piece h =
    let object = file_of named.rels file in
    let t = target_of named file p.1.symbol in
    let kind = check_passed (not (is_accepted (section_of object p.1.section).class p.1.kind)) RelocationKind p.1.at _ piece h in
    let found = bind_passed (ok_or (field_piece pieces file p.1.section p.1.offset (width_of p.1.kind)) (fault RelocationOffset p.1.at)) _ piece kind.1 in
    let refused = check_passed (refuses_target p.1.kind t) RelocationKind p.1.at _ piece found.2 in
    let slot = check_passed (clashes object.relocs p.0 p.1) RelocationSlot p.1.at _ piece refused.1 in
    let addend = check_passed (not (addend_passes p.1.kind t p.1.addend)) Addend p.1.at _ piece slot.1 in
    let same : found.0 ≡ piece = cc in
    (not-false (is_accepted (section_of object p.1.section).class p.1.kind) kind.0, some_passed _ _ found.0 found.1 ∙ ap Some same)

abbrev pub AreStepsOf : Named → List Piece → List Step → Type 0
AreStepsOf named pieces so_far = All (IsStepOf named pieces) so_far

-- what is known of a relocation that passed its checks
pub checked_step : (named : Named) (pieces : List Piece) (file : ℕ) (p : ℕ × Reloc) (piece : ℕ) → file < length named.rels → StandsIn (file_of named.rels file).relocs no_reloc p → checked_piece named pieces file p ≡ Ok piece → IsStepOf named pieces (record { file = file; index = p.0; piece = piece })
checked_step named pieces file p piece lt stands h =
    let passed = checked named pieces file p piece h in
    let first = first_passes (holds_field file p.1.section p.1.offset (width_of p.1.kind)) 0 pieces no_piece piece (sym (position_from-zero (holds_field file p.1.section p.1.offset (width_of p.1.kind)) pieces) ∙ passed.1) in
    let same : first.0 ≡ piece = omega (arith, first.1) in
    let is : reloc_of named.rels (record { file = file; index = p.0; piece = piece }) ≡ p.1 = stands.1 in
    record {
      file = lt;
      index = stands.0;
      piece = omega (arith, first.2);
      accepted = subst (λ (r : Reloc). is_accepted (section_of (file_of named.rels file) r.section).class r.kind ≡ true) (sym is) passed.0;
      inside = subst (λ (r : Reloc). holds_field file r.section r.offset (width_of r.kind) (piece_of pieces piece) ≡ true) (sym is) (subst (λ (k : ℕ). holds_field file p.1.section p.1.offset (width_of p.1.kind) (piece_of pieces k) ≡ true) same first.3);
    }

-- a step recorded
pub recorded : (named : Named) (pieces : List Piece) (file : ℕ) (so_far : List Step) (p : ℕ × Reloc) (after : List Step) → file < length named.rels → AreStepsOf named pieces so_far → StandsIn (file_of named.rels file).relocs no_reloc p → record_step named pieces file so_far p ≡ Ok after → AreStepsOf named pieces after
unfolding record_step
recorded named pieces file so_far p after lt are stands h =
    choice_passed (is_passed_over p.1.kind) (Ok so_far) _ (Ok after) h
    (λ _ same. let e : so_far ≡ after = cc in subst (AreStepsOf named pieces) e are)
    (λ _ rest.
    let found = bind_passed (checked_piece named pieces file p) (λ piece. Ok (so_far ++ record { file = file; index = p.0; piece = piece } ∷ [])) after rest in
    let s : Step = record { file = file; index = p.0; piece = found.0 } in
    let e : so_far ++ s ∷ [] ≡ after = cc in
    subst (AreStepsOf named pieces) e (All-push (IsStepOf named pieces) so_far s are (checked_step named pieces file p found.0 lt stands found.1)))

-- the steps of a file
pub file_recorded : (named : Named) (pieces : List Piece) (so_far : List Step) (f : ℕ × RelObject) (after : List Step) → AreStepsOf named pieces so_far → StandsIn named.rels no_object f → file_steps named pieces so_far f ≡ Ok after → AreStepsOf named pieces after
unfolding file_steps
file_recorded named pieces so_far f after are stands h =
    let passed = file_passed f.1.number (steps (record_step named pieces f.0) so_far (enumerate_from 0 f.1.relocs)) after h in
    let items = subst (λ (object : RelObject). All (StandsIn (file_of named.rels f.0).relocs no_reloc) (enumerate_from 0 object.relocs)) stands.1 (stand_in (file_of named.rels f.0).relocs no_reloc) in
    steps_keep_of (record_step named pieces f.0) (AreStepsOf named pieces) (StandsIn (file_of named.rels f.0).relocs no_reloc)
    (λ a x b p q e. recorded named pieces f.0 a x b stands.0 p q e) so_far (enumerate_from 0 f.1.relocs) after are items passed

-- the steps of the walk
pub walk_recorded : (named : Named) (pieces : List Piece) (after : List Step) → walk_of named pieces ≡ Ok after → AreStepsOf named pieces after
unfolding walk_of
walk_recorded named pieces after h =
    steps_keep_of (file_steps named pieces) (AreStepsOf named pieces) (StandsIn named.rels no_object)
    (λ a x b p q e. file_recorded named pieces a x b p q e) [] (enumerate_from 0 named.rels) after (All-nil (IsStepOf named pieces)) (stand_in named.rels no_object) h

-- the rows of exported names are in the table
pub filtered_below : (p : ℕ × Resolved → Bool) (n end : ℕ) (table : List Resolved) → end ≡ n + length table → All (λ row. row < end) (map (λ q. q.0) (filter p (enumerate_from n table)))
filtered_below p n end [] e = All-nil (λ row. row < end)
filtered_below p n end (r ∷ table) e = go (p (n, r)) (filtered_below p (n + 1) end table (omega (arith, e)))
  where
    go : (b : Bool) → All (λ row. row < end) (map (λ q. q.0) (filter p (enumerate_from (n + 1) table))) → All (λ row. row < end) (map (λ q. q.0) (cond b ((n, r) ∷ filter p (enumerate_from (n + 1) table)) (filter p (enumerate_from (n + 1) table))))
    go true rest = All-cons (λ row. row < end) n (map (λ q. q.0) (filter p (enumerate_from (n + 1) table))) (omega (arith, e)) rest
    go false rest = rest

-- the parts of a plan
pub record IsPlannedOf (named : Named) (pieces : List Piece) (plan : Planned) : Type 0 where
  pub steps : AreStepsOf named pieces plan.steps
  pub symbols : plan.symbols ≡ exported named.table
  pub relas_few : plan.sizes.relas ≤ 2 ^ 20
  pub cap_relocs_few : plan.sizes.cap_relocs ≤ 2 ^ 20
  pub slots : plan.sizes.slots ≡ length plan.slots
  pub stubs : plan.sizes.stubs ≡ length plan.stubs

pub made_parts : (named : Named) (pieces : List Piece) (needed : List (List ℕ)) (soname : Option (List ℕ)) (done : List Step) → AreStepsOf named pieces done → (planned named pieces needed soname done).sizes.relas + (planned named pieces needed soname done).sizes.cap_relocs ≤ 2 ^ 20 → IsPlannedOf named pieces (planned named pieces needed soname done)
unfolding planned sizes_of
made_parts named pieces needed soname done are low = record {
  steps = are;
  symbols = refl;
  relas_few = omega (arith, low);
  cap_relocs_few = omega (arith, low);
  slots = refl;
  stubs = refl;
}

pub plan_parts : (named : Named) (pieces : List Piece) (needed : List (List ℕ)) (soname : Option (List ℕ)) (plan : Planned) → plan_of named pieces needed soname ≡ Ok plan → IsPlannedOf named pieces plan
unfolding plan_of
plan_parts named pieces needed soname plan h =
    let walked = bind_passed (walk_of named pieces) _ plan h in
    let made = planned named pieces needed soname walked.0 in
    let few = then_passed (in_file 0 (refuse (nat_lt (2 ^ 20) made.sizes.symbols) SymbolCount 0)) _ plan walked.2 in
    let rest = then_passed (in_file 0 (refuse (nat_lt (2 ^ 20) (made.sizes.relas + made.sizes.cap_relocs)) RelocationCount 0)) (Ok made) plan few.1 in
    let count = file_passed 0 (refuse (nat_lt (2 ^ 20) (made.sizes.relas + made.sizes.cap_relocs)) RelocationCount 0) tt rest.0 in
    let small = refused_not (nat_lt (2 ^ 20) (made.sizes.relas + made.sizes.cap_relocs)) RelocationCount 0 tt count in
    let low : made.sizes.relas + made.sizes.cap_relocs ≤ 2 ^ 20 = ltb-false (2 ^ 20) (made.sizes.relas + made.sizes.cap_relocs) small in
    let same : made ≡ plan = cc in
    subst (IsPlannedOf named pieces) same (made_parts named pieces needed soname walked.0 (walk_recorded named pieces walked.0 walked.1) low)

pub end_passed : (end : ℕ) (u : Unit {0}) → ends_low end ≡ Ok u → end ≤ 2 ^ 26
unfolding ends_low
end_passed end u h = choice_passed (nat_lt (2 ^ 26) end) _ _ (Ok u) h (λ _ e. absurd (cc)) (λ low _. ltb-false (2 ^ 26) end low)

-- where each check passed, each item is low
pub ends_passed : (ends : List ℕ) → each ends_low ends ≡ Ok tt → All (λ end. end ≤ 2 ^ 26) ends
ends_passed [] h = All-nil (λ end. end ≤ 2 ^ 26)
ends_passed (end ∷ ends) h =
    let one = bind_passed (ends_low end) (λ c. steps (λ _ x. ends_low x) c ends) tt h in
    All-cons (λ e. e ≤ 2 ^ 26) end ends (end_passed end one.0 one.1) (ends_passed ends one.2)

pub all_front : {X : Type 0} (P : X → Type 0) (xs ys : List X) → All P (xs ++ ys) → All P xs
all_front P [] ys h = All-nil P
all_front P (x ∷ xs) ys h = All-cons P x xs (All-head P x (xs ++ ys) h) (all_front P xs ys (All-tail P x (xs ++ ys) h))

pub all_back : {X : Type 0} (P : X → Type 0) (xs ys : List X) → All P (xs ++ ys) → All P ys
all_back P [] ys h = h
all_back P (x ∷ xs) ys h = all_back P xs ys (All-tail P x (xs ++ ys) h)

-- the parts of a layout
pub record IsLaidOut (inputs : List RelObject) (laid : Laid) (sizes : Sizes) : Type 0 where
  pub rels : laid.rels ≡ inputs
  pub slots_low : slots_end laid.parts sizes ≤ 2 ^ 26
  pub stubs_low : stubs_end laid.parts sizes ≤ 2 ^ 26

abbrev pub IsLow : ℕ → Type 0
IsLow end = end ≤ 2 ^ 26

pub low_parts : (a b c d e f g h : List ℕ) (stubs first slots : ℕ) → All IsLow (a ++ b ++ (stubs ∷ c) ++ (first ∷ slots ∷ d) ++ e ++ f ++ g ++ h) → IsLow stubs × IsLow slots
low_parts a b c d e f g h stubs first slots low =
    let to_g = all_front IsLow (a ++ b ++ (stubs ∷ c) ++ (first ∷ slots ∷ d) ++ e ++ f ++ g) h low in
    let to_f = all_front IsLow (a ++ b ++ (stubs ∷ c) ++ (first ∷ slots ∷ d) ++ e ++ f) g to_g in
    let to_e = all_front IsLow (a ++ b ++ (stubs ∷ c) ++ (first ∷ slots ∷ d) ++ e) f to_f in
    let to_d = all_front IsLow (a ++ b ++ (stubs ∷ c) ++ (first ∷ slots ∷ d)) e to_e in
    let to_c = all_front IsLow (a ++ b ++ (stubs ∷ c)) (first ∷ slots ∷ d) to_d in
    let of_d = all_back IsLow (a ++ b ++ (stubs ∷ c)) (first ∷ slots ∷ d) to_d in
    let of_c = all_back IsLow (a ++ b) (stubs ∷ c) to_c in
    (All-head IsLow stubs c of_c, All-head IsLow slots d (All-tail IsLow first (slots ∷ d) of_d))

pub low_ends : (rels : List RelObject) (pieces : PieceList) (sizes : Sizes) → All IsLow (padded_ends pieces.all sizes) → IsLaidOut rels (laid_as rels pieces sizes) sizes
low_ends rels pieces sizes low =
    let at = parts_of pieces.all sizes in
    let all = pieces.all in
    let parts = low_parts
    (at.symbols_at ∷ at.relas_at ∷ at.cap_relocs_at ∷ at.hash_at ∷ at.names_at ∷ names_end at sizes ∷ [])
    (ends (names_end at sizes) (of_class Ro all))
    (ends (stubs_end at sizes) (of_class Code all))
    (ends (array_start (slots_end at sizes) (of_class Init all)) (of_class Init all))
    (ends (array_start (init_end all at sizes) (of_class Fini all)) (of_class Fini all))
    (ends (fini_end all at sizes) (of_class Relro all))
    (at.table_end ∷ ends at.data_start (of_class Data all))
    (ends at.file_end (of_class Bss all))
    (stubs_end at sizes) at.slots_at (slots_end at sizes) low in
    record { rels = refl; slots_low = parts.1; stubs_low = parts.0 }

pub laid_parts : (rels : List RelObject) (pieces : PieceList) (sizes : Sizes) (laid : Laid) → lay_of rels pieces sizes ≡ Ok laid → IsLaidOut rels laid sizes
unfolding lay_of
laid_parts rels pieces sizes laid h =
    let low = then_passed (each ends_low (padded_ends pieces.all sizes)) _ laid h in
    let rest = then_passed (each (file_aligned (laid_as rels pieces sizes)) (enumerate_from 0 rels)) (Ok (laid_as rels pieces sizes)) laid low.1 in
    let same : laid_as rels pieces sizes ≡ laid = cc in
    subst (λ (l : Laid). IsLaidOut rels l sizes) same (low_ends rels pieces sizes (ends_passed (padded_ends pieces.all sizes) low.0))

pub are_planned : (named : Named) (laid : Laid) (plan : Planned) → IsPlanOf named laid.pieces.all plan → IsLayoutOf named.rels laid.pieces plan.sizes laid → ArePlanned named laid plan
are_planned named laid plan planned_so laid_so =
    let is = plan_parts named laid.pieces.all planned_so.0 planned_so.1 plan planned_so.2 in
    let so = laid_parts named.rels laid.pieces plan.sizes laid laid_so in
    record {
      rels = so.rels;
      steps = is.steps;
      rows = subst (All (λ row. row < length named.table)) (sym is.symbols) (filtered_below (λ p. is_exported p.1) 0 (length named.table) named.table (omega arith));
      relas_few = is.relas_few;
      cap_relocs_few = is.cap_relocs_few;
      slots_low = omega (arith, so.slots_low, is.slots);
      stubs_low = omega (arith, so.stubs_low, is.stubs);
    }

pub lists_of : (named : Named) (laid : Laid) (plan : Planned) (lists : CapTableValue) → IsPlanOf named laid.pieces.all plan → IsLayoutOf named.rels laid.pieces plan.sizes laid → filled named plan laid ≡ lists → AreListsOf named laid lists
unfolding filled
lists_of named laid plan lists planned_so laid_so e =
    subst (AreListsOf named laid) e (record { plan = planned_so; layout = laid_so; filled_as = refl })

pub all_lists : {E : Type 0} (named : Named) (laid : Laid) (plan : Planned) (r : Result CapTableValue E) → IsPlanOf named laid.pieces.all plan → IsLayoutOf named.rels laid.pieces plan.sizes laid → IfOk r (λ lists. lists ≡ filled named plan laid) → IfOk r (AreListsOf named laid)
all_lists named laid plan (Ok lists) planned_so laid_so e = lists_of named laid plan lists planned_so laid_so (sym e)
all_lists named laid plan (Err e) planned_so laid_so h = tt
