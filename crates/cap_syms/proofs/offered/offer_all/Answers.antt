use Rattle.std.proofs.Common.{ℕ, ◌<◌, length, get_or, [], refl, ap, ◌∙◌, arith}
use Rattle.cap_elf.specs.Records.{null_symbol}
use Rattle.cap_elf.specs.DynView.{DynRecords}
use Rattle.cap_syms.specs.Tally.{with_choosable, with_choosables}
use Rattle.cap_syms.proofs.Offers.{offer-more, offer-done}
use Rattle.cap_syms.proofs.offered.offer_all.Goals as goal

pub loop-i-init : goal.loop-i-init
unfolding with_choosables
loop-i-init c = refl

pub loop-i-preserved : goal.loop-i-preserved
loop-i-preserved c =
    let object : DynRecords = c.args.object.now.records in
    let i : ℕ = c.loop-i.i in
    let same = c.symbols-symbols.ensures.symbols in
    let lt : i < length object.symbols = omega (arith, ap length same, c.loop-i-test.true) in
    offer-more object.names object.symbols c.loop-i.names c.offer.new.names (with_choosables c.args.names.now c.args.object.now) i c.symbols-symbols.ensures.sound.name_count lt
    (c.in_ok-offer.ensures
    ∙ ap (λ n. with_choosable c.loop-i.names (n, get_or c.symbols-symbols.result.now i (null_symbol 0))) c.name.ensures
    ∙ ap (λ xs. with_choosable c.loop-i.names (get_or object.names i [], get_or xs i (null_symbol 0))) same)
    c.loop-i.invariant

pub returns : goal.returns
returns c =
    let object : DynRecords = c.args.object.now.records in
    offer-done object.names object.symbols c.loop-i.names (with_choosables c.args.names.now c.args.object.now) c.loop-i.i c.symbols-symbols.ensures.sound.name_count (omega (arith, ap length c.symbols-symbols.ensures.symbols, c.loop-i-test.false)) c.loop-i.invariant
