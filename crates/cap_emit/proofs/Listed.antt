-- The lists of a plan have the sizes of the plan.
use Rattle.std.proofs.Common.{◌≡◌, ℕ, suc, ◌+◌, ◌^◌, ◌≤◌, nat_lt, Bool, true, false, cond, if◌then◌else◌, List, [], ◌∷◌, ◌++◌, map, filter, length, take, drop, Option, Result, Ok, refl, ap, ◌∙◌, arith, length-append}
use Rattle.std.specs.Prelude.{option_to_list}
use Rattle.std.specs.List.{enumerate_from}
use Rattle.std.proofs.lemmas.List.{length-map, length-take, length-drop}
use Rattle.std.proofs.lemmas.List.Elements.{filter-append}
use Rattle.cap_base.specs.Steps.{◌>>◌, in_file, refuse}
use Rattle.cap_base.specs.declared.check.Check.TheVariants.{SymbolCount, RelocationCount}
use Rattle.cap_base.specs.declared.refusal.Refusal.{Refusal}
use Rattle.cap_elf.proofs.Passing.{then_passed, bind_passed}
use Rattle.cap_elf.specs.Classes.{is_bss}
use Rattle.cap_elf.specs.RelObject.{RelObject}
use Rattle.cap_layout.specs.declared.piece.Piece.{Piece}
use Rattle.cap_layout.specs.declared.parts.Sizes.{Sizes}
use Rattle.cap_layout.specs.Pieces.{PieceList, piece_of}
use Rattle.cap_layout.specs.Points.{Laid}
use Rattle.cap_layout.specs.Laid.{lay_of, laid_as}
use Rattle.cap_syms.specs.Resolved.{row_of}
use Rattle.cap_table.specs.declared.target.Target.{Target}
use Rattle.cap_table.specs.declared.target.Step.{Step}
use Rattle.cap_table.specs.Targets.{Named}
use Rattle.cap_table.specs.Checks.{reloc_of, target_at, walk_of}
use Rattle.cap_table.specs.Planned.{Planned, planned, plan_of, sizes_of, fields_of, symbol_names, tags_of, is_relocated, is_described}
use Rattle.cap_table.specs.Lists.{Want, slot_want, slot_wants, field_want, field_wants, wants, dyn_symbol, dyn_reloc_of, cap_reloc_of, relas_of, cap_relocs_of, name_offsets, linked_names, entries_with, tag_entry, dynamics_of, filled}
use Rattle.cap_table.specs.Bodies.{BodiesValue, AreLong}
use Rattle.cap_emit.proofs.Fits.{AreShort}
use Rattle.cap_emit.proofs.Fitting.{AreSized}

-- ---- the layout and the plan
abbrev pub as_ok : {A E : Type 0} → A → Result A E
as_ok x = Ok x

pub ok_same : {A E : Type 0} (x y : A) → as_ok {E = E} x ≡ as_ok y → x ≡ y
ok_same x y h = cc

pub laid_is : (rels : List RelObject) (pieces : PieceList) (sizes : Sizes) (laid : Laid) → lay_of rels pieces sizes ≡ Ok laid → laid_as rels pieces sizes ≡ laid
unfolding lay_of
laid_is rels pieces sizes laid h = let two = then_passed _ _ laid (then_passed _ _ laid h).1 in ok_same _ _ two.1

pub plan_is : (named : Named) (pieces : List Piece) (needed : List (List ℕ)) (soname : Option (List ℕ)) (plan : Planned) → plan_of named pieces needed soname ≡ Ok plan → (steps : List Step) × (planned named pieces needed soname steps ≡ plan)
unfolding plan_of
plan_is named pieces needed soname plan h =
    let checks : List Step → Result Planned Refusal = λ steps. let p = planned named pieces needed soname steps in in_file 0 (refuse (nat_lt (2 ^ 20) p.sizes.symbols) SymbolCount 0) >> (in_file 0 (refuse (nat_lt (2 ^ 20) (p.sizes.relas + p.sizes.cap_relocs)) RelocationCount 0) >> Ok p) in
    let walked = bind_passed (walk_of named pieces) checks plan h in
    let two = then_passed _ _ plan (then_passed _ _ plan walked.2).1 in
    (walked.0, ok_same _ _ two.1)

-- ---- how many of a list pass
passed_first : {X Y : Type 0} (b : Bool) (x : X) (y : Y) (xs : List X) (ys : List Y) → length xs ≡ length ys → length (cond b (x ∷ xs) xs) ≡ length (cond b (y ∷ ys) ys)
passed_first true x y xs ys h = omega (arith, h)
passed_first false x y xs ys h = h

mapped : {X Y : Type 0} (p : Y → Bool) (f : X → Y) (xs : List X) → length (filter p (map f xs)) ≡ length (filter (λ x. p (f x)) xs)
mapped p f [] = refl
mapped p f (x ∷ xs) = passed_first (p (f x)) (f x) x (filter p (map f xs)) (filter (λ x. p (f x)) xs) (mapped p f xs)

numbered : {X : Type 0} (p : X → Bool) (i : ℕ) (xs : List X) → length (filter (λ q. p q.1) (enumerate_from i xs)) ≡ length (filter p xs)
numbered p i [] = refl
numbered p i (x ∷ xs) = passed_first (p x) (i, x) x (filter (λ q. p q.1) (enumerate_from (i + 1) xs)) (filter p xs) (numbered p (i + 1) xs)

-- those among the wants of slots and of fields
passing_wants : (named : Named) (plan : Planned) (laid : Laid) (p : ℕ → Target → Bool) →
    length (filter (λ w. p w.kind w.target) (wants named plan laid)) ≡ length (filter (p 193) plan.slots) + length (filter (λ s. p (reloc_of named.rels s).kind (target_at named s)) (fields_of named plan.steps))
passing_wants named plan laid p =
    let q : Want → Bool = λ w. p w.kind w.target in
    let slots = mapped q (slot_want laid) (enumerate_from 0 plan.slots) ∙ numbered (p 193) 0 plan.slots in
    let fields = mapped q (field_want named laid) (fields_of named plan.steps) in
    ap length (filter-append q (slot_wants plan laid) (field_wants named plan laid))
    ∙ length-append (filter q (slot_wants plan laid)) (filter q (field_wants named plan laid))
    ∙ ap (λ n. n + length (filter q (field_wants named plan laid))) slots
    ∙ ap (λ n. length (filter (p 193) plan.slots) + n) fields

relas_listed : (named : Named) (plan : Planned) (laid : Laid) → length (relas_of plan.symbols laid (wants named plan laid)) ≡ length (filter (is_relocated 193) plan.slots) + length (filter (λ s. is_relocated (reloc_of named.rels s).kind (target_at named s)) (fields_of named plan.steps))
relas_listed named plan laid =
    length-map (filter (λ w. is_relocated w.kind w.target) (wants named plan laid)) (dyn_reloc_of plan.symbols laid) ∙ passing_wants named plan laid is_relocated

cap_relocs_listed : (named : Named) (plan : Planned) (laid : Laid) → length (cap_relocs_of laid (wants named plan laid)) ≡ length (filter (is_described 193) plan.slots) + length (filter (λ s. is_described (reloc_of named.rels s).kind (target_at named s)) (fields_of named plan.steps))
cap_relocs_listed named plan laid =
    length-map (filter (λ w. is_described w.kind w.target) (wants named plan laid)) (cap_reloc_of laid) ∙ passing_wants named plan laid is_described

length_offsets : (at : ℕ) (names : List (List ℕ)) → length (name_offsets at names) ≡ length names
length_offsets at [] = refl
length_offsets at (name ∷ names) = ap suc (length_offsets (at + length name + 1) names)

dynamics_listed : (named : Named) (plan : Planned) (laid : Laid) → length (dynamics_of plan (name_offsets 1 (linked_names named plan)) laid.parts) ≡ length plan.needed + length (option_to_list plan.soname) + length (tags_of plan)
dynamics_listed named plan laid =
    let names = linked_names named plan in
    let offsets = name_offsets 1 names in
    let rows = length plan.symbols in
    let sonames = length (option_to_list plan.soname) in
    let own = drop rows offsets in
    let symbols = symbol_names named.table plan.symbols in
    let many : length offsets ≡ rows + sonames + length plan.needed =
    omega (arith, length_offsets 1 names, length-append (symbols ++ option_to_list plan.soname) plan.needed, length-append symbols (option_to_list plan.soname), length-map plan.symbols (λ row. (row_of named.table row).name)) in
    let left : length own ≡ sonames + length plan.needed = omega (arith, many, length-drop rows offsets) in
    let one = entries_with 1 (drop sonames own) in
    let two = entries_with 14 (take sonames own) in
    let three = map (tag_entry plan laid.parts) (tags_of plan) in
    let first : length one ≡ length plan.needed = length-map (drop sonames own) (λ value. record { tag = 1; value = value }) ∙ omega (arith, left, length-drop sonames own) in
    let second : length two ≡ sonames = length-map (take sonames own) (λ value. record { tag = 14; value = value }) ∙ omega (arith, left, length-take sonames own) in
    omega (arith, first, second, length-map (tags_of plan) (tag_entry plan laid.parts), length-append (one ++ two) three, length-append one two)

pub lists_sized : (named : Named) (pieces : List Piece) (needed : List (List ℕ)) (soname : Option (List ℕ)) (steps : List Step) (laid : Laid) (bodies : BodiesValue) → AreLong pieces (planned named pieces needed soname steps) bodies →
    AreSized (filled named (planned named pieces needed soname steps) laid) bodies (sizes_of named pieces needed soname steps)
unfolding filled planned sizes_of
lists_sized named pieces needed soname steps laid bodies long =
    let plan = planned named pieces needed soname steps in
    record {
      symbols = omega (arith, length-map plan.symbols (dyn_symbol named laid));
      relas = omega (arith, relas_listed named plan laid);
      cap_relocs = omega (arith, cap_relocs_listed named plan laid);
      names = omega arith;
      dynamics = omega (arith, dynamics_listed named plan laid);
      stubs = omega (arith, long.stubs);
      slots = omega (arith, long.slots);
    }

-- ---- the bytes of the pieces
no_longer : (b : Bool) (n : ℕ) → (if b then 0 else n) ≤ n
no_longer true n = omega arith
no_longer false n = omega arith

pub bytes_short : (pieces : List Piece) (plan : Planned) (bodies : BodiesValue) → AreLong pieces plan bodies → AreShort pieces bodies.pieces
unfolding AreShort
bytes_short pieces plan bodies long = λ k lt. omega (arith, long.each k lt, no_longer (is_bss (piece_of pieces k).class) (piece_of pieces k).padded)
