-- The plan, stage by stage.
use Rattle.std.proofs.Common.{◌≡◌, ℕ, ◌+◌, ◌<◌, ◌≤◌, Bool, List, All, length, get_or, map, Option, Result, Ok, Err, refl, ap}
use Rattle.std.proofs.lemmas.List.Elements.{All-map}
use Rattle.cap_base.specs.Steps.{◌>>=◌, ◌>>◌}
use Rattle.cap_base.specs.declared.check.Check.TheVariants.{SymbolCount, RelocationCount}
use Rattle.cap_base.specs.declared.refusal.Refusal.{Refusal}
use Rattle.cap_elf.specs.RelObject.{RelObject}
use Rattle.cap_layout.specs.declared.piece.Piece.{Piece}
use Rattle.cap_syms.specs.IsResolved.{IsResolved}
use Rattle.cap_syms.specs.Resolved.{Resolved, row_of, no_name}
use Rattle.cap_table.specs.declared.target.Step.{Step}
use Rattle.cap_table.specs.Targets.{Named}
use Rattle.cap_table.specs.Checks.{walk_of}
use Rattle.cap_table.specs.Planned.{Planned, planned, sizes_of, plan_of, slots_of, exported, rela_count, cap_reloc_count}
use Rattle.cap_table.specs.Counted.{limit_of, limits_of}

then_group : {B : Type 0} (a b : Result (Unit {0}) Refusal) (c : Result B Refusal) → (a >> (b >> c)) ≡ ((a >> b) >> c)
then_group (Ok _) b c = refl
then_group (Err e) b c = refl

planned_so : Named → List Piece → List (List ℕ) → Option (List ℕ) → List Step → Result Planned Refusal
planned_so named pieces needed soname steps = limits_of named steps >> Ok (planned named pieces needed soname steps)

limited : (named : Named) (pieces : List Piece) (needed : List (List ℕ)) (soname : Option (List ℕ)) (steps : List Step) → (limit_of (planned named pieces needed soname steps).sizes.symbols SymbolCount >> (limit_of ((planned named pieces needed soname steps).sizes.relas + (planned named pieces needed soname steps).sizes.cap_relocs) RelocationCount >> Ok (planned named pieces needed soname steps))) ≡ (limits_of named steps >> Ok (planned named pieces needed soname steps))
unfolding planned sizes_of limits_of
limited named pieces needed soname steps =
    then_group
    (limit_of (1 + length (exported named.table)) SymbolCount)
    (limit_of (rela_count named (slots_of named steps) steps + cap_reloc_count named (slots_of named steps) steps) RelocationCount)
    (Ok (planned named pieces needed soname steps))

-- the walk, the limits, and then the plan
pub plan_is : (named : Named) (pieces : List Piece) (needed : List (List ℕ)) (soname : Option (List ℕ)) → plan_of named pieces needed soname ≡ (walk_of named pieces >>= λ steps. limits_of named steps >> Ok (planned named pieces needed soname steps))
unfolding plan_of
plan_is named pieces needed soname = ap (λ f. walk_of named pieces >>= f) (λ i steps. limited named pieces needed soname steps i)

-- names are short
pub short_rows : (rels : List RelObject) (table : List Resolved) (rows : List ℕ) → IsResolved rels table → All (λ row. row < length table) rows → All (λ row. length (row_of table row).name ≤ 255) rows
short_rows rels table rows sound below k d lt = (sound.rows_are (get_or rows k d) no_name (below k d lt)).short.short

pub short_names : (needed : List (List ℕ × Bool)) → All (λ n. length n.0 ≤ 255) needed → All (λ n. length n ≤ 255) (map (λ n. n.0) needed)
short_names needed short = All-map (λ n. length n ≤ 255) (λ n. n.0) needed short
