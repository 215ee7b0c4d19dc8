use Rattle.std.proofs.Common.{arith}
use Rattle.cap_layout.proofs.PlaceBounds.{power_high, padded_high}
use Rattle.cap_layout.proofs.running.Running.put.Goals as goal

pub overflow_add-address : goal.overflow_add-address
overflow_add-address c =
    let align = power_high _ c.requires.align_power (omega arith) in
    let padded = padded_high _ c.requires in
    omega (arith, align, padded)
