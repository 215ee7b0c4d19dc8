-- What the passes of a link give of their inputs.
use Rattle.std.proofs.Common.{◌≡◌, ℕ, ◌+◌, ◌^◌, ◌≤◌, Bool, true, false, List, length, Option, Result, Ok, Err, refl, sym, ap, subst, ◌∙◌, arith}
use Rattle.std.specs.Prelude.{nat_lt}
use Rattle.std.specs.List.{enumerate_from}
use Rattle.std.proofs.lemmas.Bool.{ltb-false}
use Rattle.std.proofs.lemmas.List.{length-map}
use Rattle.cap_base.specs.declared.check.Check.{Check}
use Rattle.cap_base.specs.declared.check.Check.TheVariants.{SymbolCount, RelocationCount}
use Rattle.cap_base.specs.declared.refusal.Refusal.{Refusal}
use Rattle.cap_base.specs.Steps.{◌>>=◌, ◌>>◌, refuse, in_file, each}
use Rattle.cap_elf.specs.RelObject.{RelObject}
use Rattle.cap_layout.specs.declared.parts.Sizes.{Sizes}
use Rattle.cap_layout.specs.declared.piece.Piece.{Piece}
use Rattle.cap_layout.specs.Parts.{padded_ends}
use Rattle.cap_layout.specs.Pieces.{PieceList}
use Rattle.cap_layout.specs.Points.{Laid}
use Rattle.cap_layout.specs.Laid.{lay_of, laid_as, ends_low, file_aligned, IsLayoutOf}
use Rattle.cap_table.specs.Targets.{Named}
use Rattle.cap_table.specs.Checks.{walk_of}
use Rattle.cap_table.specs.Planned.{Planned, planned, sizes_of, plan_of, IsPlanOf}
use Rattle.cap_table.specs.Lists.{CapTableValue, filled, dyn_symbol}

-- both gave a value
bind_passed : {E A B : Type 0} (r : Result A E) (f : A → Result B E) (y : B) → (r >>= f) ≡ Ok y → (x : A) × (r ≡ Ok x) × (f x ≡ Ok y)
bind_passed (Ok x) f y h = (x, refl, h)
bind_passed (Err e) f y h = absurd (cc)

then_passed : {E B : Type 0} (u : Result (Unit {0}) E) (r : Result B E) (y : B) → (u >> r) ≡ Ok y → (u ≡ Ok tt) × (r ≡ Ok y)
then_passed (Ok v) r y h = (refl, h)
then_passed (Err e) r y h = absurd (cc)

abbrev accepted : {A : Type 0} → A → Result A Refusal
accepted x = Ok x

same_value : {A : Type 0} (x y : A) → accepted x ≡ accepted y → x ≡ y
same_value x y h = cc

test_passed : (file : ℕ) (fails : Bool) (check : Check) (at : ℕ) → in_file file (refuse fails check at) ≡ Ok tt → fails ≡ false
test_passed file true check at h = absurd (cc)
test_passed file false check at h = refl

-- a layout keeps the inputs and the pieces that it was made of
pub layout_is : (rels : List RelObject) (pieces : PieceList) (sizes : Sizes) (laid : Laid) → lay_of rels pieces sizes ≡ Ok laid → laid ≡ laid_as rels pieces sizes
unfolding lay_of
layout_is rels pieces sizes laid h =
    let ends = then_passed (each ends_low (padded_ends pieces.all sizes)) _ laid h in
    let files = then_passed (each (file_aligned (laid_as rels pieces sizes)) (enumerate_from 0 rels)) _ laid ends.1 in
    sym (same_value (laid_as rels pieces sizes) laid files.1)

pub layout_rels : (rels : List RelObject) (pieces : PieceList) (sizes : Sizes) (laid : Laid) → lay_of rels pieces sizes ≡ Ok laid → laid.rels ≡ rels
layout_rels rels pieces sizes laid h = ap (λ (l : Laid). l.rels) (layout_is rels pieces sizes laid h)

pub layout_pieces : (rels : List RelObject) (pieces : PieceList) (sizes : Sizes) (laid : Laid) → lay_of rels pieces sizes ≡ Ok laid → laid.pieces ≡ pieces
layout_pieces rels pieces sizes laid h = ap (λ (l : Laid). l.pieces) (layout_is rels pieces sizes laid h)

-- a layout is that of its own pieces
pub layout_of_own : (rels : List RelObject) (pieces : PieceList) (sizes : Sizes) (laid : Laid) → lay_of rels pieces sizes ≡ Ok laid → IsLayoutOf rels laid.pieces sizes laid
layout_of_own rels pieces sizes laid h = subst (λ (p : PieceList). lay_of rels p sizes ≡ Ok laid) (sym (layout_pieces rels pieces sizes laid h)) h

-- a plan has few symbols
planned_count : (named : Named) (pieces : List Piece) (needed : List (List ℕ)) (soname : Option (List ℕ)) (plan : Planned) → plan_of named pieces needed soname ≡ Ok plan → 1 + length plan.symbols ≤ 2 ^ 20
unfolding plan_of planned sizes_of
planned_count named pieces needed soname plan h =
    let walk = bind_passed (walk_of named pieces) _ plan h in
    let p = planned named pieces needed soname walk.0 in
    let symbols = then_passed (in_file 0 (refuse (nat_lt (2 ^ 20) p.sizes.symbols) SymbolCount 0)) _ plan walk.2 in
    let relocs = then_passed (in_file 0 (refuse (nat_lt (2 ^ 20) (p.sizes.relas + p.sizes.cap_relocs)) RelocationCount 0)) _ plan symbols.1 in
    let few = ltb-false (2 ^ 20) p.sizes.symbols (test_passed 0 (nat_lt (2 ^ 20) p.sizes.symbols) SymbolCount 0 symbols.0) in
    subst (λ (q : Planned). 1 + length q.symbols ≤ 2 ^ 20) (same_value p plan relocs.1) few

pub plan_few : (named : Named) (pieces : List Piece) (plan : Planned) → IsPlanOf named pieces plan → 1 + length plan.symbols ≤ 2 ^ 20
plan_few named pieces plan h = planned_count named pieces h.0 h.1 plan h.2

-- the lists have the null symbol and those of the plan
listed_count : (named : Named) (plan : Planned) (laid : Laid) → length (filled named plan laid).symbols ≡ 1 + length plan.symbols
unfolding filled
listed_count named plan laid = let e = length-map plan.symbols (dyn_symbol named laid) in omega (arith, e)

pub lists_some : (named : Named) (plan : Planned) (laid : Laid) (lists : CapTableValue) → lists ≡ filled named plan laid → 1 ≤ length lists.symbols
lists_some named plan laid lists is =
    let e : length lists.symbols ≡ 1 + length plan.symbols = ap (λ (l : CapTableValue). length l.symbols) is ∙ listed_count named plan laid in
    omega (arith, e)

pub lists_few : (named : Named) (pieces : List Piece) (plan : Planned) (laid : Laid) (lists : CapTableValue) → IsPlanOf named pieces plan → lists ≡ filled named plan laid → length lists.symbols ≤ 2 ^ 20
lists_few named pieces plan laid lists planned is =
    let e : length lists.symbols ≡ 1 + length plan.symbols = ap (λ (l : CapTableValue). length l.symbols) is ∙ listed_count named plan laid in
    omega (arith, e, plan_few named pieces plan planned)
