-- What holds of the inputs, the layout and the lists together.
use Rattle.std.proofs.Common.{◌≡◌, ℕ, ◌<◌, List, length, Result, Ok, sym, ap, subst}
use Rattle.std.specs.Prelude.{All, unwrap_or}
use Rattle.std.specs.List.{enumerate_from}
use Rattle.std.proofs.lemmas.Bool.{cond_both, eqb-false}
use Rattle.std.proofs.lemmas.List.Elements.{All-get_or}
use Rattle.cap_base.specs.declared.refusal.Refusal.{Refusal}
use Rattle.cap_base.specs.Steps.{each}
use Rattle.cap_elf.specs.RelObject.{RelObject, file_of, symbol_of, name_of}
use Rattle.cap_elf.proofs.Passing.{then_passed}
use Rattle.cap_syms.specs.Occurrences.{is_local}
use Rattle.cap_syms.specs.Resolved.{row_of, index_of, no_name}
use Rattle.cap_syms.specs.IsResolved.{IsResolved, IsRow}
use Rattle.cap_layout.specs.declared.parts.Sizes.{Sizes}
use Rattle.cap_layout.specs.Pieces.{PieceList}
use Rattle.cap_layout.specs.Parts.{padded_ends}
use Rattle.cap_layout.specs.Points.{Laid}
use Rattle.cap_layout.specs.Laid.{IsLayoutOf, lay_of, laid_as, ends_low, file_aligned}
use Rattle.cap_table.specs.declared.target.Target.{Target}
use Rattle.cap_table.specs.Targets.{Named, target_of, local_target, row_target}
use Rattle.cap_code.specs.Values.{Scene}
use Rattle.cap_code.specs.Steps.{IsScene, IsTargetIn}

-- a layout is of its inputs
pub same_rels : (rels : List RelObject) (pieces : PieceList) (sizes : Sizes) (laid : Laid) → IsLayoutOf rels pieces sizes laid → laid.rels ≡ rels
unfolding lay_of
same_rels rels pieces sizes laid h =
    let made = laid_as rels pieces sizes in
    let ends = then_passed (each ends_low (padded_ends pieces.all sizes)) _ laid h in
    let aligned = then_passed (each (file_aligned made) (enumerate_from 0 rels)) _ laid ends.1 in
    ap (λ (l : Laid). l.rels) (sym (ok_same made laid aligned.1))
  where
    ok : Laid → Result Laid Refusal
    ok l = Ok l

    ok_same : (l m : Laid) → ok l ≡ ok m → l ≡ m
    ok_same l m e = cc

-- the symbol of a target is one of these inputs
record IsAmong (rels : List RelObject) (t : Target) : Type 0 where
  file : t.file < length rels
  symbol : t.symbol < length (file_of rels t.file).symbols

among_local : (rels : List RelObject) (file symbol : ℕ) → file < length rels → symbol < length (file_of rels file).symbols → IsAmong rels (local_target (file_of rels file) file symbol)
unfolding local_target
among_local rels file symbol in_files in_symbols = record { file = in_files; symbol = in_symbols }

among_row : (named : Named) (row : ℕ) → All (IsRow named.rels) named.table → row < length named.table → IsAmong named.rels (row_target named row)
unfolding row_target
among_row named row all lt =
    let r : IsRow named.rels (row_of named.table row) = All-get_or (IsRow named.rels) named.table row no_name lt all in
    record { file = r.file; symbol = r.symbol }

among : (named : Named) (file symbol : ℕ) → IsResolved named.rels named.table → file < length named.rels → symbol < length (file_of named.rels file).symbols → IsAmong named.rels (target_of named file symbol)
unfolding target_of
among named file symbol resolved in_files in_symbols =
    let object = file_of named.rels file in
    cond_both (is_local (symbol_of object symbol)) (local_target object file symbol) (row_target named (unwrap_or (index_of named.table (name_of object symbol)) 0)) (IsAmong named.rels)
    (λ _. among_local named.rels file symbol in_files in_symbols)
    (λ other.
    let found = resolved.complete file symbol in_files in_symbols (eqb-false (symbol_of object symbol).binding 0 other) in
    subst (λ o. IsAmong named.rels (row_target named (unwrap_or o 0))) (sym found.1) (among_row named found.0 resolved.rows_are found.2))

pub target_there : (scene : Scene) (file symbol : ℕ) (t : Target) → IsScene scene → file < length scene.named.rels → symbol < length (file_of scene.named.rels file).symbols → t ≡ target_of scene.named file symbol → IsTargetIn scene t
target_there scene file symbol t is in_files in_symbols e =
    let here : IsAmong scene.named.rels t = subst (IsAmong scene.named.rels) (sym e) (among scene.named file symbol is.resolved in_files in_symbols) in
    let there : IsAmong scene.laid.rels t = subst (λ rels. IsAmong rels t) (sym is.same) here in
    record { file = there.file; symbol = there.symbol }
