-- The passes of a link that was accepted, each with what it gave.
use Rattle.std.proofs.Common.{◌≡◌, ℕ, ◌+◌, ◌^◌, ◌≤◌, Bool, true, false, cond, List, [], ◌∷◌, refl, sym, ap, ◌∙◌, subst, arith, Option, Result, Ok, Err}
use Rattle.std.specs.Prelude.{nat_lt}
use Rattle.std.specs.List.{AllByRecursion}
use Rattle.cap_base.specs.Steps.{refuse, each, steps, in_file}
use Rattle.cap_base.specs.declared.check.Check.{Check}
use Rattle.cap_base.specs.declared.kind.Kind.{Kind}
use Rattle.cap_base.specs.declared.refusal.Refusal.{Refusal}
use Rattle.cap_base.specs.declared.refusal.Refusal.TheVariants as refusals
use Rattle.cap_base.specs.declared.check.Check.TheVariants.{SymbolCount, RelocationCount}
use Rattle.cap_elf.specs.RelObject.{RelObject}
use Rattle.cap_elf.proofs.Passing.{bind_passed, then_passed}
use Rattle.cap_syms.specs.Output.{is_program, soname_of}
use Rattle.cap_syms.specs.Resolved.{Resolved, resolve_of}
use Rattle.cap_layout.specs.declared.piece.Piece.{Piece}
use Rattle.cap_layout.specs.declared.parts.Sizes.{Sizes}
use Rattle.cap_layout.specs.Pieces.{PieceList, piece_list, pieces_of}
use Rattle.cap_layout.specs.Parts.{padded_ends}
use Rattle.cap_layout.specs.Points.{Laid}
use Rattle.cap_layout.specs.Laid.{span_limit, ends_low, laid_as, lay_of, ArePiecesOf, IsLayoutOf}
use Rattle.cap_table.specs.Targets.{Named}
use Rattle.cap_table.specs.Checks.{walk_of}
use Rattle.cap_table.specs.Planned.{Planned, planned, plan_of}
use Rattle.cap_table.specs.Lists.{filled}
use Rattle.cap_code.specs.Patched.{patch_of}
use Rattle.cap_link.specs.Inputs.{Input, FilesRead, files_of}
use Rattle.cap_link.specs.Linked.{Linked, flags_of, entry_of, linked_laid, linked_planned, linked_pieces, linked_of, link_of}
use Rattle.cap_link.proofs.Placing.{IsLow}

abbrev pub accepted : {A : Type 0} → A → Result A Refusal
accepted x = Ok x

pub same-accepted : {A : Type 0} (x y : A) → accepted x ≡ accepted y → x ≡ y
same-accepted x y h = cc

-- each pass gave what the link holds
pub record Passes (files : FilesRead) (table : List Resolved) (kind : Kind) (l : Linked) : Type 0 where
  pub named : l.named ≡ record { rels = files.rels; table = table }
  pub pieces : l.laid.pieces ≡ piece_list files.rels table
  pub apart : ArePiecesOf files.rels table l.laid.pieces
  pub plan : plan_of l.named l.laid.pieces.all files.needed (soname_of kind) ≡ Ok l.lists.plan
  pub laid : l.laid ≡ laid_as files.rels l.laid.pieces l.lists.plan.sizes
  pub placed : IsLayoutOf files.rels l.laid.pieces l.lists.plan.sizes l.laid
  pub low : AllByRecursion IsLow (padded_ends l.laid.pieces.all l.lists.plan.sizes)
  pub lists : l.lists ≡ filled l.named l.lists.plan l.laid
  pub bodies : patch_of (record { named = l.named; laid = l.laid; lists = l.lists }) ≡ Ok l.bodies
  pub flags : l.flags ≡ flags_of files.rels
  pub entry : l.entry ≡ entry_of l.named l.laid kind

not-far : (b : Bool) (end : ℕ) → nat_lt span_limit end ≡ b → (u : Unit {0}) → cond b (Err (refusals.Full end 0)) (accepted tt) ≡ Ok u → IsLow end
not-far true end e u h = absurd (cc)
not-far false end e u h = grind arith

low-passed : (end : ℕ) (u : Unit {0}) → ends_low end ≡ Ok u → IsLow end
unfolding ends_low
low-passed end u h = not-far (nat_lt span_limit end) end refl u h

pub each-low : (xs : List ℕ) (u : Unit {0}) → each ends_low xs ≡ Ok u → AllByRecursion IsLow xs
each-low [] u h = tt
each-low (x ∷ xs) u h =
    let one = bind_passed (ends_low x) (λ v. steps (λ _ y. ends_low y) v xs) u h in
    (low-passed x one.0 one.1, each-low xs u one.2)

laid-passed : (rels : List RelObject) (pieces : PieceList) (sizes : Sizes) (laid : Laid) → lay_of rels pieces sizes ≡ Ok laid → (laid ≡ laid_as rels pieces sizes) × AllByRecursion IsLow (padded_ends pieces.all sizes)
unfolding lay_of
laid-passed rels pieces sizes laid h =
    let low = then_passed (each ends_low (padded_ends pieces.all sizes)) _ laid h in
    let rest = then_passed _ (accepted (laid_as rels pieces sizes)) laid low.1 in
    (sym (same-accepted (laid_as rels pieces sizes) laid rest.1), each-low (padded_ends pieces.all sizes) tt low.0)

pieces-passed : (rels : List RelObject) (table : List Resolved) (pieces : PieceList) → pieces_of rels table ≡ Ok pieces → pieces ≡ piece_list rels table
unfolding pieces_of
pieces-passed rels table pieces h = let rest = then_passed _ (accepted (piece_list rels table)) pieces h in sym (same-accepted (piece_list rels table) pieces rest.1)

linked-passed : (files : FilesRead) (table : List Resolved) (kind : Kind) (l : Linked) → linked_of files table kind ≡ Ok l → Passes files table kind l
unfolding linked_of linked_pieces linked_planned linked_laid filled
linked-passed files table kind l h =
    let named : Named = record { rels = files.rels; table = table } in
    let a = bind_passed (pieces_of files.rels table) _ l h in
    let pieces : PieceList = a.0 in
    let b = bind_passed (plan_of named pieces.all files.needed (soname_of kind)) _ l a.2 in
    let plan : Planned = b.0 in
    let c = bind_passed (lay_of files.rels pieces plan.sizes) _ l b.2 in
    let laid : Laid = c.0 in
    let lists = filled named plan laid in
    let d = bind_passed (patch_of (record { named = named; laid = laid; lists = lists })) _ l c.2 in
    let made : Linked = record { named = named; laid = laid; lists = lists; bodies = d.0; flags = flags_of files.rels; entry = entry_of named laid kind } in
    let is : made ≡ l = same-accepted made l d.2 in
    let lay = laid-passed files.rels pieces plan.sizes laid c.1 in
    let same : pieces ≡ laid.pieces = sym (ap (λ (x : Laid). x.pieces) lay.0) in
    let passes : Passes files table kind made = record {
      named = refl;
      pieces = sym same ∙ pieces-passed files.rels table pieces a.1;
      apart = subst (ArePiecesOf files.rels table) same a.1;
      plan = ap (λ (q : PieceList). plan_of named q.all files.needed (soname_of kind)) (sym same) ∙ b.1;
      laid = lay.0 ∙ ap (λ (q : PieceList). laid_as files.rels q plan.sizes) same;
      placed = subst (λ (q : PieceList). IsLayoutOf files.rels q plan.sizes laid) same c.1;
      low = subst (λ (q : PieceList). AllByRecursion IsLow (padded_ends q.all plan.sizes)) same lay.1;
      lists = refl;
      bodies = d.1;
      flags = refl;
      entry = refl;
    } in
    subst (Passes files table kind) is passes

-- the files, the table and the passes of an accepted link
pub record IsPassed (inputs : List Input) (kind : Kind) (l : Linked) : Type 0 where
  pub files : FilesRead
  pub files_are : files_of inputs ≡ Ok files
  pub table : List Resolved
  pub table_is : resolve_of files.rels files.dyns (is_program kind) ≡ Ok table
  pub passes : Passes files table kind l

pub link-passed : (inputs : List Input) (kind : Kind) (l : Linked) → link_of inputs kind ≡ Ok l → IsPassed inputs kind l
unfolding link_of
link-passed inputs kind l h =
    let a = bind_passed (files_of inputs) _ l h in
    let files : FilesRead = a.0 in
    let b = bind_passed (resolve_of files.rels files.dyns (is_program kind)) _ l a.2 in
    record { files = files; files_are = a.1; table = b.0; table_is = b.1; passes = linked-passed files b.0 kind l b.2 }

-- ---- the plan
pub record IsPlanned (named : Named) (pieces : List Piece) (needed : List (List ℕ)) (soname : Option (List ℕ)) (plan : Planned) : Type 0 where
  pub walk : walk_of named pieces ≡ Ok plan.steps
  pub is : plan ≡ planned named pieces needed soname plan.steps
  pub few_symbols : plan.sizes.symbols ≤ 2 ^ 20
  pub few_relocs : plan.sizes.relas + plan.sizes.cap_relocs ≤ 2 ^ 20

not-beyond : (b : Bool) (limit n : ℕ) → nat_lt limit n ≡ b → (check : Check) (u : Unit {0}) → in_file 0 (refuse b check 0) ≡ accepted u → n ≤ limit
not-beyond true limit n e check u h = absurd (cc)
not-beyond false limit n e check u h = grind arith

below-passed : (limit n : ℕ) (check : Check) (u : Unit {0}) → in_file 0 (refuse (nat_lt limit n) check 0) ≡ accepted u → n ≤ limit
below-passed limit n check u h = not-beyond (nat_lt limit n) limit n refl check u h

pub plan-passed : (named : Named) (pieces : List Piece) (needed : List (List ℕ)) (soname : Option (List ℕ)) (plan : Planned) → plan_of named pieces needed soname ≡ Ok plan → IsPlanned named pieces needed soname plan
unfolding plan_of planned
plan-passed named pieces needed soname plan h =
    let a = bind_passed (walk_of named pieces) _ plan h in
    let done = planned named pieces needed soname a.0 in
    let b = then_passed (in_file 0 (refuse (nat_lt (2 ^ 20) done.sizes.symbols) SymbolCount 0)) _ plan a.2 in
    let c = then_passed (in_file 0 (refuse (nat_lt (2 ^ 20) (done.sizes.relas + done.sizes.cap_relocs)) RelocationCount 0)) (accepted done) plan b.1 in
    let is : done ≡ plan = same-accepted done plan c.1 in
    let all : IsPlanned named pieces needed soname done = record {
      walk = a.1;
      is = refl;
      few_symbols = below-passed (2 ^ 20) done.sizes.symbols SymbolCount tt b.0;
      few_relocs = below-passed (2 ^ 20) (done.sizes.relas + done.sizes.cap_relocs) RelocationCount tt c.0;
    } in
    subst (IsPlanned named pieces needed soname) is all
