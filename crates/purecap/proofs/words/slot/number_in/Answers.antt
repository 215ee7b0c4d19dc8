use Rattle.std.proofs.Common.{arith}
use Rattle.purecap.proofs.Slots.{room}
use Rattle.purecap.proofs.words.slot.number_in.Goals as goal

pub overflow_mul-number : goal.overflow_mul-number
overflow_mul-number c =
    let there = room c.loop-digit.number c.loop-digit.digit-index _ c.loop-digit.invariant.1 c.loop-digit-test.true c.requires.few in omega (arith, there)

pub overflow_add-number : goal.overflow_add-number
overflow_add-number c =
    let there = room c.loop-digit.number c.loop-digit.digit-index _ c.loop-digit.invariant.1 c.loop-digit-test.true c.requires.few in
    let small = c.hex_value.ensures.small in omega (arith, there, small)
