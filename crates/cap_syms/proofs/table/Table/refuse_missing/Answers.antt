use Rattle.std.proofs.Common.{◌≡◌, ◌<◌, ◌≤◌, ℕ, Bool, List, length, get_or, Err, [], sym, ap, ◌∙◌, arith}
use Rattle.std.proofs.lemmas.Result.{err_from_is_err_and}
use Rattle.cap_base.specs.Steps.{each}
use Rattle.cap_base.proofs.Walk.{steps_more, steps_fault, steps_done}
use Rattle.cap_elf.specs.RelObject.{RelObject}
use Rattle.cap_syms.specs.declared.entries.Entry.{Entry}
use Rattle.cap_syms.specs.declared.tally.Tally.{Tally}
use Rattle.cap_syms.specs.Resolved.{Resolved, no_name, row_of}
use Rattle.cap_syms.specs.Tally.{refuse_missing as refuse_row, refuse_name, entry_from}
use Rattle.cap_syms.proofs.TableLemmas.{table_of, row-is, length-table}
use Rattle.cap_syms.proofs.table.Table.refuse_missing.Goals as goal

-- the check of the row at i, by its name and its tally
checked : (rels : List RelObject) (asked program : Bool) (offered names : List (List ℕ)) (ts : List Tally) (table : List Resolved) (i : ℕ) (name : List ℕ) (t : Tally) (entry : Entry) → length names ≡ length ts → table_of program names ts ≡ table → i < length ts → name ≡ get_or names i [] → t ≡ get_or ts i t → entry ≡ entry_from t → refuse_row rels asked offered (row_of table i) ≡ refuse_name rels asked offered name entry
checked rels asked program offered names ts table i name t entry same view lt at has is =
    ap (λ x. refuse_row rels asked offered (row_of x i)) (sym view)
    ∙ ap (refuse_row rels asked offered) (row-is program names ts same i t lt)
    ∙ ap (λ n. refuse_name rels asked offered n (entry_from (get_or ts i t))) (sym at)
    ∙ ap (λ x. refuse_name rels asked offered name (entry_from x)) (sym has)
    ∙ ap (refuse_name rels asked offered name) (sym is)

pub returns-in_err-refuse_missing : goal.returns-in_err-refuse_missing
returns-in_err-refuse_missing c =
    let names : List (List ℕ) = c.self.inside.names in
    let program : Bool = c.self.inside.program in
    let ts : List Tally = c.self.inside.tallies.items in
    let table : List Resolved = c.args.self.now in
    let view : table_of program names ts ≡ table = c.self.view_is in
    let lt : c.loop-i.i < length ts = omega (arith, c.loop-i-test.true, c.len-i-end.ensures) in
    let inside : c.loop-i.i < length table = omega (arith, lt, length-table program names ts c.self.invariant.0, ap length view) in
    let at = checked c.args.rels.now c.args.program program c.args.offered.now names ts table c.loop-i.i c.name.result.now c.index.result.now c.entry.result c.self.invariant.0 view lt c.name.ensures c.index.ensures c.entry.ensures in
    let p = err_from_is_err_and c.from_residual.result c.from_residual.ensures.1 in
    p.1
    ∙ ap Err p.2
    ∙ sym (steps_fault (λ _ (r : Resolved). refuse_row c.args.rels.now c.args.program c.args.offered.now r) tt table c.loop-i.i no_name c.in_err-refuse_missing.field-0.0 (each (refuse_row c.args.rels.now c.args.program c.args.offered.now) table) inside (at ∙ sym c.in_err-refuse_missing.ensures) c.loop-i.invariant)

pub loop-i-preserved : goal.loop-i-preserved
loop-i-preserved c =
    let names : List (List ℕ) = c.self.inside.names in
    let program : Bool = c.self.inside.program in
    let ts : List Tally = c.self.inside.tallies.items in
    let table : List Resolved = c.args.self.now in
    let view : table_of program names ts ≡ table = c.self.view_is in
    let lt : c.loop-i.i < length ts = omega (arith, c.loop-i-test.true, c.len-i-end.ensures) in
    let inside : c.loop-i.i < length table = omega (arith, lt, length-table program names ts c.self.invariant.0, ap length view) in
    let at = checked c.args.rels.now c.args.program program c.args.offered.now names ts table c.loop-i.i c.name.result.now c.index.result.now c.entry.result c.self.invariant.0 view lt c.name.ensures c.index.ensures c.entry.ensures in
    steps_more (λ _ (r : Resolved). refuse_row c.args.rels.now c.args.program c.args.offered.now r) tt tt table c.loop-i.i no_name (each (refuse_row c.args.rels.now c.args.program c.args.offered.now) table) inside (at ∙ sym c.in_ok-refuse_missing.ensures) c.loop-i.invariant

pub returns : goal.returns
returns c =
    let names : List (List ℕ) = c.self.inside.names in
    let program : Bool = c.self.inside.program in
    let ts : List Tally = c.self.inside.tallies.items in
    let table : List Resolved = c.args.self.now in
    let view : table_of program names ts ≡ table = c.self.view_is in
    let past : length table ≤ c.loop-i.i = omega (arith, c.loop-i-test.false, c.len-i-end.ensures, length-table program names ts c.self.invariant.0, ap length view) in
    sym (steps_done (λ _ (r : Resolved). refuse_row c.args.rels.now c.args.program c.args.offered.now r) tt table c.loop-i.i (each (refuse_row c.args.rels.now c.args.program c.args.offered.now) table) past c.loop-i.invariant)
