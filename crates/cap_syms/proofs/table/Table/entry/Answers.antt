use Rattle.std.proofs.Common.{◌≡◌, Bool, ◌<◌, List, ℕ, length, sym, ap, ◌∙◌, arith}
use Rattle.cap_syms.specs.declared.tally.Tally.{Tally}
use Rattle.cap_syms.specs.Resolved.{row_of}
use Rattle.cap_syms.specs.Tally.{entry_from}
use Rattle.cap_syms.proofs.TableLemmas.{table_of, row-is, length-table}
use Rattle.cap_syms.proofs.table.Table.entry.Goals as goal

pub index-requires : goal.index-requires
index-requires c =
    let names : List (List ℕ) = c.self.inside.names in
    let program : Bool = c.self.inside.program in
    let ts : List Tally = c.self.inside.tallies.items in
    let view : table_of program names ts ≡ c.args.self.now = c.self.view_is in
    omega (arith, c.requires, ap length view, length-table program names ts c.self.invariant.0)

pub returns : goal.returns
returns c =
    let names : List (List ℕ) = c.self.inside.names in
    let program : Bool = c.self.inside.program in
    let ts : List Tally = c.self.inside.tallies.items in
    let view : table_of program names ts ≡ c.args.self.now = c.self.view_is in
    let lt : c.args.row < length ts = omega (arith, c.requires, ap length view, length-table program names ts c.self.invariant.0) in
    c.entry.ensures
    ∙ ap entry_from c.index.ensures
    ∙ sym (ap (λ r. r.entry) (row-is program names ts c.self.invariant.0 c.args.row c.index.result.now lt))
    ∙ ap (λ t. (row_of t c.args.row).entry) view
