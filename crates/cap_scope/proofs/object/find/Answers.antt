use Rattle.std.proofs.Common.{length, get_or, ◌∙◌, sym, ap, arith}
use Rattle.cap_elf.specs.Records.{null_symbol}
use Rattle.cap_elf.specs.DynView.{DynRecords}
use Rattle.cap_scope.specs.Candidates.{can_be_chosen}
use Rattle.cap_scope.proofs.Exported.{none_only, none_first, inside, chosen_only, chosen_first, hidden_only, hidden_first}
use Rattle.cap_scope.proofs.object.find.Goals as goal

pub bounds-symbols-symbol : goal.bounds-symbols-symbol
bounds-symbols-symbol c =
    let object : DynRecords = c.args.file.now.records in
    omega (arith, inside object.symbols object.names c.args.name.now c.in-Some.symbol c.symbols.ensures.sound.name_count c.in-Some.ensures.first c.in-Some.ensures.only, ap length c.symbols.ensures.symbols)

pub returns-then-can_be_chosen-clause-first : goal.returns-then-can_be_chosen-clause-first
returns-then-can_be_chosen-clause-first c =
    let object : DynRecords = c.args.file.now.records in
    chosen_first object.symbols object.names c.args.name.now c.in-Some.symbol c.symbols.ensures.sound.name_count c.in-Some.ensures.first c.in-Some.ensures.only
    (sym (c.can_be_chosen.ensures ∙ ap (λ xs. can_be_chosen (get_or xs c.in-Some.symbol (null_symbol 0))) c.symbols.ensures.symbols) ∙ c.if-can_be_chosen.true)

pub returns-then-can_be_chosen-clause-only : goal.returns-then-can_be_chosen-clause-only
returns-then-can_be_chosen-clause-only c =
    let object : DynRecords = c.args.file.now.records in
    chosen_only object.symbols object.names c.args.name.now c.in-Some.symbol c.symbols.ensures.sound.name_count c.in-Some.ensures.first c.in-Some.ensures.only
    (sym (c.can_be_chosen.ensures ∙ ap (λ xs. can_be_chosen (get_or xs c.in-Some.symbol (null_symbol 0))) c.symbols.ensures.symbols) ∙ c.if-can_be_chosen.true)

pub returns-else-can_be_chosen-clause-first : goal.returns-else-can_be_chosen-clause-first
returns-else-can_be_chosen-clause-first c =
    let object : DynRecords = c.args.file.now.records in
    hidden_first object.symbols object.names c.args.name.now c.in-Some.symbol c.symbols.ensures.sound.name_count c.in-Some.ensures.first c.in-Some.ensures.only
    (sym (c.can_be_chosen.ensures ∙ ap (λ xs. can_be_chosen (get_or xs c.in-Some.symbol (null_symbol 0))) c.symbols.ensures.symbols) ∙ c.if-can_be_chosen.false)

pub returns-else-can_be_chosen-clause-only : goal.returns-else-can_be_chosen-clause-only
returns-else-can_be_chosen-clause-only c =
    let object : DynRecords = c.args.file.now.records in
    hidden_only object.symbols object.names c.args.name.now c.in-Some.symbol c.symbols.ensures.sound.name_count c.in-Some.ensures.first c.in-Some.ensures.only
    (sym (c.can_be_chosen.ensures ∙ ap (λ xs. can_be_chosen (get_or xs c.in-Some.symbol (null_symbol 0))) c.symbols.ensures.symbols) ∙ c.if-can_be_chosen.false)

pub returns-in-None-clause-first : goal.returns-in-None-clause-first
returns-in-None-clause-first c =
    let object : DynRecords = c.args.file.now.records in
    none_first object.symbols object.names c.args.name.now c.in-None.ensures.only

pub returns-in-None-clause-only : goal.returns-in-None-clause-only
returns-in-None-clause-only c =
    let object : DynRecords = c.args.file.now.records in
    none_only object.symbols object.names c.args.name.now c.in-None.ensures.only
