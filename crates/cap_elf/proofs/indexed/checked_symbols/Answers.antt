use Rattle.std.proofs.Common.{rules, ◌≡◌, List, Result, Ok, Err, ap, ◌∙◌, arith}
use Rattle.cap_base.specs.declared.refusal.Fault.{Fault}
use Rattle.cap_base.specs.Steps.{◌>>◌}
use Rattle.cap_names.specs.Named.{HashedNames}
use Rattle.cap_elf.specs.Flagged.{flagged, flagged_by}
use Rattle.cap_elf.specs.Listed.{refuse_first}
use Rattle.cap_elf.specs.Named.{NamedSymbol}
use Rattle.cap_elf.specs.Symbols.{named_of}
use Rattle.cap_elf.proofs.Settled.{listed_few, told}
use Rattle.cap_elf.proofs.indexed.checked_symbols.Goals as goal

pub new-requires : goal.new-requires
new-requires c = omega (arith, c.requires, listed_few c.args.strings.now c.args.at c.args.entries.now c.in_ok-named.named c.in_ok-named.next_fault c.apart-symbols.result.1 (search rules) c.apart-symbols.ensures.names)

pub returns-in_err-refuse_first : goal.returns-in_err-refuse_first
returns-in_err-refuse_first c =
    let flags : c.in_ok-index.index.names ≡ flagged c.in_ok-named.named = ap (λ (i : HashedNames). i.names) c.in_ok-index.ensures ∙ c.apart-symbols.ensures.names in
    let all = told c.args.strings.now c.args.at c.args.entries.now c.in_ok-named.named c.in_ok-named.next_fault c.in_ok-index.index.names c.apart-symbols.result.0.items c.first_repeated.result
    (search rules) flags c.apart-symbols.ensures.symbols c.first_repeated.ensures.least in
    let refused : refuse_first c.apart-symbols.result.0.items c.first_repeated.result c.in_ok-named.next_fault ≡ Err c.in_err-refuse_first.field-0.0 = search rules in
    let said : named_of c.args.strings.now c.args.at c.args.entries.now ≡ Err c.in_err-refuse_first.field-0.0 =
    all ∙ ap (λ r. let s : Result (List NamedSymbol) Fault = (r >> Ok (flagged_by c.apart-symbols.result.0.items c.in_ok-index.index.names)) in s) refused in
    search (rules, said)

pub returns : goal.returns
returns c =
    let flags : c.in_ok-index.index.names ≡ flagged c.in_ok-named.named = ap (λ (i : HashedNames). i.names) c.in_ok-index.ensures ∙ c.apart-symbols.ensures.names in
    let all = told c.args.strings.now c.args.at c.args.entries.now c.in_ok-named.named c.in_ok-named.next_fault c.in_ok-index.index.names c.apart-symbols.result.0.items c.first_repeated.result
    (search rules) flags c.apart-symbols.ensures.symbols c.first_repeated.ensures.least in
    let passed : refuse_first c.apart-symbols.result.0.items c.first_repeated.result c.in_ok-named.next_fault ≡ Ok tt = search rules in
    all ∙ ap (λ r. let s : Result (List NamedSymbol) Fault = (r >> Ok (flagged_by c.apart-symbols.result.0.items c.in_ok-index.index.names)) in s) passed
