use Rattle.std.proofs.Common.{ℕ, ◌<◌, length, get_or, refl, ap, ◌∙◌, arith}
use Rattle.cap_elf.specs.declared.records.Symbol.{Symbol}
use Rattle.cap_elf.specs.Records.{null_symbol}
use Rattle.cap_elf.specs.RelObject.{RelObject, name_of}
use Rattle.cap_syms.specs.Occurrences.{Occurrence}
use Rattle.cap_syms.specs.Tally.{with_input, noted_if_outside}
use Rattle.cap_syms.proofs.Passes.{symbol-more, symbol-done}
use Rattle.cap_syms.proofs.seen.Seen.note_input.Goals as goal

pub loop-i-init : goal.loop-i-init
unfolding with_input
loop-i-init c = refl

pub loop-i-preserved : goal.loop-i-preserved
loop-i-preserved c =
    let p : ℕ × RelObject = (c.args.file, c.args.rel.now) in
    let i : ℕ = c.loop-i.i in
    let same = c.symbols-symbols.ensures.symbols in
    let lt : i < length p.1.symbols = omega (arith, ap length same, c.loop-i-test.true) in
    let made : Symbol → Occurrence = λ s. record { name = name_of p.1 i; file = p.0; symbol = i; as_is = s } in
    symbol-more p c.loop-i.self c.note_symbol.new.self (with_input c.args.self.now p) i lt (c.in_ok-note_symbol.ensures ∙ ap (λ xs. noted_if_outside c.loop-i.self (made (get_or xs i (null_symbol 0)))) same) c.loop-i.invariant

pub returns-clause-seen : goal.returns-clause-seen
returns-clause-seen c =
    let p : ℕ × RelObject = (c.args.file, c.args.rel.now) in
    symbol-done p c.loop-i.self (with_input c.args.self.now p) c.loop-i.i (omega (arith, ap length c.symbols-symbols.ensures.symbols, c.loop-i-test.false)) c.loop-i.invariant
