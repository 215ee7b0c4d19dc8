use Rattle.std.proofs.Common.{◌∷◌, [], refl, ap, arith, length, length-append}
use Rattle.cap_demo.proofs.Sizes.{data_more, data_done}
use Rattle.cap_demo.proofs.symbols.own_symbols.Goals as goal

pub loop-index-preserved : goal.loop-index-preserved
loop-index-preserved c =
    let i = c.loop-index.index in
    let sizes = c.args.sizes.now in
    let symbols = c.loop-index.symbols.items in
    let symbol = c.datum_symbol.result in
    let more = c.push-in-loop-index.new.self.items in
    let pushed = c.in_ok-push-3.ensures.items in (
      data_more c.args.number i c.loop-index.at _ symbol sizes symbols more _ 0 c.loop-index-test.true c.datum_symbol.ensures refl pushed c.loop-index.invariant.0,
      omega (arith, c.requires.1 i 0 c.loop-index-test.true, c.loop-index.invariant.1),
      omega (arith, ap length pushed, length-append symbols (symbol ∷ []), c.loop-index.invariant.2),
    )

pub returns-clause-symbols : goal.returns-clause-symbols
returns-clause-symbols c =
    data_done c.args.number c.loop-index.index c.loop-index.at c.args.sizes.now c.loop-index.symbols.items _ c.loop-index-test.false c.loop-index.invariant.0
