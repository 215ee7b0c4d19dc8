use Rattle.std.proofs.Common.{refl}
use Rattle.purecap.proofs.Finished.{printed_finished}
use Rattle.purecap.proofs.initial.print_calls.Goals as goal

pub returns-in-Ok : goal.returns-in-Ok
returns-in-Ok g c = λ disk untouched kept. printed_finished _ disk _ _ _ _ (rw (c.deref.ensures.value, c.in-Ok.ensures) at c.print_next.ensures) untouched kept

pub returns-in-Err : goal.returns-in-Err
returns-in-Err g c = λ disk untouched kept.
    rw c.tell_starved.ensures.failure (record { untouched = untouched; still = record { bytes = refl; count = refl }; none = refl }, c.tell_starved.ensures.last, kept)
