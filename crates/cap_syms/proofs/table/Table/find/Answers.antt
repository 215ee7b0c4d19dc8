use Rattle.std.proofs.Common.{◌≡◌, Bool, List, ℕ, sym, ap, ◌∙◌}
use Rattle.cap_syms.specs.declared.tally.Tally.{Tally}
use Rattle.cap_syms.specs.Resolved.{index_of}
use Rattle.cap_syms.proofs.TableLemmas.{table_of, index-is}
use Rattle.cap_syms.proofs.table.Table.find.Goals as goal

pub returns-in-Some : goal.returns-in-Some
returns-in-Some c =
    let names : List (List ℕ) = c.self.inside.names in
    let program : Bool = c.self.inside.program in
    let ts : List Tally = c.self.inside.tallies.items in
    let view : table_of program names ts ≡ c.args.self.now = c.self.view_is in
    sym c.in-Some.is
    ∙ c.find.ensures
    ∙ sym (index-is c.args.name.now program names ts c.self.invariant.0)
    ∙ ap (λ t. index_of t c.args.name.now) view

pub returns-in-None : goal.returns-in-None
returns-in-None c =
    let names : List (List ℕ) = c.self.inside.names in
    let program : Bool = c.self.inside.program in
    let ts : List Tally = c.self.inside.tallies.items in
    let view : table_of program names ts ≡ c.args.self.now = c.self.view_is in
    sym c.in-None.is
    ∙ c.find.ensures
    ∙ sym (index-is c.args.name.now program names ts c.self.invariant.0)
    ∙ ap (λ t. index_of t c.args.name.now) view
