use Rattle.std.proofs.Common.{refl}
use Rattle.purecap.proofs.DemoEnds.{demo_halted}
use Rattle.purecap.proofs.demo.demo.Goals as goal

pub returns-in-Err : goal.returns-in-Err
returns-in-Err g c = λ disk untouched reads.
    demo_halted c.args.number disk _ _ untouched reads (record { bytes = refl; count = refl }) c.in-Err.halt c.end_with.result c.in-Err.ensures c.end_with.ensures
