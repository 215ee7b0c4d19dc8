use Rattle.std.proofs.Common.{◌+◌, ◌*◌, refl, ap, arith}
use Rattle.cap_demo.proofs.Capabilities.{capabilities_more, capabilities_done}
use Rattle.cap_demo.proofs.Lengths.{length_capability}
use Rattle.cap_demo.proofs.sections.capabilities.Goals as goal

pub loop-i-preserved : goal.loop-i-preserved
loop-i-preserved c =
    let i = c.loop-i.i in
    let relas = c.loop-i.relas.items in
    let more = c.push_capability.new.relas.items in
    let pushed = c.in_ok-push_capability.ensures in (
      capabilities_more c.args.symbols.now c.args.targets.now i relas _ (16 * i) (1 + c.place-symbol.result) more _ c.loop-i-test.true refl (ap (λ n. 1 + n) c.place-symbol.ensures.value) pushed c.loop-i.invariant.0,
      omega (arith, length_capability relas more (16 * i) (1 + c.place-symbol.result) pushed, c.loop-i.invariant.1),
    )

pub returns-clause-value : goal.returns-clause-value
returns-clause-value c =
    capabilities_done c.args.symbols.now c.args.targets.now c.loop-i.i c.loop-i.relas.items _ c.loop-i-test.false c.loop-i.invariant.0
