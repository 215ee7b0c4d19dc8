use Rattle.std.proofs.Common.{◌∙◌, ℕ, List, ap, sym, ◌++◌, length, take, drop, append_assoc, length-append, arith, ◌∷◌}
use Rattle.std.specs.Prelude.{option_to_list}
use Rattle.std.proofs.lemmas.List.{length-map}
use Rattle.cap_syms.specs.Resolved.{row_of}
use Rattle.cap_table.specs.Planned.{symbol_names, name_bytes}
use Rattle.cap_table.specs.Lists.{name_offsets}
use Rattle.cap_table.specs.NameTable.{NamesValue, with_names, null_name, behind}
use Rattle.cap_table.proofs.NameLemmas.{all_bytes, symbol_offsets, own_offsets, own_count}
use Rattle.cap_table.proofs.names.all_names.Goals as goal

pub returns-clause-bytes : goal.returns-clause-bytes
returns-clause-bytes c =
    let plan = c.args.plan.now in
    let first = symbol_names c.args.table.now plan.symbols in
    let own = option_to_list plan.soname ++ plan.needed in
    let start = ap (λ (v : NamesValue). v.bytes) (c.bytes.view_is ∙ c.in_ok-bytes.ensures ∙ ap (λ (rows : List ℕ). with_names null_name (symbol_names c.args.table.now rows)) c.symbols.ensures) in
    let last = c.in_ok-bytes-2.ensures ∙ ap (λ (bytes : List ℕ). with_names (behind bytes) own) start in
    ap (λ (v : NamesValue). v.bytes) (c.bytes-2.view_is ∙ last) ∙ all_bytes first own ∙ ap name_bytes (sym (append_assoc first (option_to_list plan.soname) plan.needed))

pub returns-clause-symbols : goal.returns-clause-symbols
returns-clause-symbols c =
    let plan = c.args.plan.now in
    let first = symbol_names c.args.table.now plan.symbols in
    let own = option_to_list plan.soname ++ plan.needed in
    ap (λ (v : NamesValue). v.offsets) (c.bytes.view_is ∙ c.in_ok-bytes.ensures ∙ ap (λ (rows : List ℕ). with_names null_name (symbol_names c.args.table.now rows)) c.symbols.ensures)
    ∙ symbol_offsets first own (length plan.symbols) (sym (length-map plan.symbols (λ row. (row_of c.args.table.now row).name)))
    ∙ ap (λ names. 0 ∷ take (length plan.symbols) (name_offsets 1 names)) (sym (append_assoc first (option_to_list plan.soname) plan.needed))

pub returns-clause-own : goal.returns-clause-own
returns-clause-own c =
    let plan = c.args.plan.now in
    let first = symbol_names c.args.table.now plan.symbols in
    let own = option_to_list plan.soname ++ plan.needed in
    let start = ap (λ (v : NamesValue). v.bytes) (c.bytes.view_is ∙ c.in_ok-bytes.ensures ∙ ap (λ (rows : List ℕ). with_names null_name (symbol_names c.args.table.now rows)) c.symbols.ensures) in
    let last = c.in_ok-bytes-2.ensures ∙ ap (λ (bytes : List ℕ). with_names (behind bytes) own) start in
    ap (λ (v : NamesValue). v.offsets) (c.bytes-2.view_is ∙ last)
    ∙ own_offsets first own (length plan.symbols) (sym (length-map plan.symbols (λ row. (row_of c.args.table.now row).name)))
    ∙ ap (λ names. drop (length plan.symbols) (name_offsets 1 names)) (sym (append_assoc first (option_to_list plan.soname) plan.needed))

pub returns-clause-long : goal.returns-clause-long
returns-clause-long c =
    let plan = c.args.plan.now in
    let own = option_to_list plan.soname ++ plan.needed in
    let count = ap (λ (v : NamesValue). length v.offsets) (c.bytes-2.view_is ∙ c.in_ok-bytes-2.ensures) ∙ own_count c.bytes.inside.bytes.items own in
    omega (arith, count, length-append (option_to_list plan.soname) plan.needed)
