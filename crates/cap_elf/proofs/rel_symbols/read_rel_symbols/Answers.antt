use Rattle.std.proofs.Common.{ℕ, ◌+◌, ◌*◌, ap, sym, subst, ◌∙◌}
use Rattle.std.proofs.lemmas.Result.{err_from_is_err_and}
use Rattle.cap_base.specs.Steps.{Fails}
use Rattle.cap_elf.specs.declared.decode.SymbolEntry.{SymbolEntry}
use Rattle.cap_elf.specs.NamePlaces.{strings_at}
use Rattle.cap_elf.specs.RelSymbols.{rel_symbol_at, rel_symbol_step}
use Rattle.cap_elf.proofs.RelWalk.{steps_from, steps_stop_from}
use Rattle.cap_elf.proofs.rel_symbols.read_rel_symbols.Goals as goal

pub returns-in_err-add_symbol-clause-value : goal.returns-in_err-add_symbol-clause-value
returns-in_err-add_symbol-clause-value c =
    let read : ℕ → SymbolEntry = λ i. rel_symbol_at c.args.bytes.now (c.args.symtab.place.at + 24 * i) in
    let e = c.in_err-add_symbol.field-0.0 in
    let one = subst (λ (entry : SymbolEntry). Fails e (rel_symbol_step (strings_at c.args.bytes.now c.args.symtab.strings) c.args.sections.now c.loop-i.named.named entry)) c.rel_symbol.ensures c.in_err-add_symbol.ensures.value in
    let said = steps_stop_from _ read _ c.loop-i.i c.args.symtab.place.count e _ c.loop-i-test.true one c.loop-i.invariant.so_far in
    let p = err_from_is_err_and c.from_residual-in_err-add_symbol.result c.from_residual-in_err-add_symbol.ensures.1 in
    rw (p.1, p.2) said

pub loop-i-preserved : goal.loop-i-preserved
loop-i-preserved c =
    let read : ℕ → SymbolEntry = λ i. rel_symbol_at c.args.bytes.now (c.args.symtab.place.at + 24 * i) in
    record {
      so_far = steps_from _ read _ _ c.loop-i.i c.args.symtab.place.count _ c.loop-i-test.true (ap (rel_symbol_step _ c.args.sections.now c.loop-i.named.named) (sym c.rel_symbol.ensures) ∙ c.in_ok-add_symbol.ensures.value) c.loop-i.invariant.so_far;
      strings = c.in_ok-add_symbol.ensures.strings ∙ c.loop-i.invariant.strings;
    }
