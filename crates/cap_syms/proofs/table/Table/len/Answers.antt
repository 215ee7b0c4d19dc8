use Rattle.std.proofs.Common.{◌≡◌, Bool, List, ℕ, length, ap, arith}
use Rattle.cap_syms.specs.declared.tally.Tally.{Tally}
use Rattle.cap_syms.proofs.TableLemmas.{table_of, length-table}
use Rattle.cap_syms.proofs.table.Table.len.Goals as goal

pub returns : goal.returns
returns c =
    let names : List (List ℕ) = c.self.inside.names in
    let program : Bool = c.self.inside.program in
    let ts : List Tally = c.self.inside.tallies.items in
    let view : table_of program names ts ≡ c.args.self.now = c.self.view_is in
    omega (arith, c.len.ensures, length-table program names ts c.self.invariant.0, ap length view)
