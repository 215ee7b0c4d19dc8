use Rattle.std.proofs.Common.{refl}
use Rattle.purecap.proofs.auditing.print_findings.Goals as goal

pub returns-in-Ok : goal.returns-in-Ok
returns-in-Ok g c = λ disk untouched kept. rw c.in-Ok.ensures at (c.print_found.ensures disk untouched kept)

pub returns-in-Err : goal.returns-in-Err
returns-in-Err g c = λ disk untouched kept.
    rw c.tell_starved.ensures.failure (record { untouched = untouched; still = record { bytes = refl; count = refl }; none = refl }, c.tell_starved.ensures.last, kept)
