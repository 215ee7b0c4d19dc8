use Rattle.std.proofs.Common.{refl}
use Rattle.purecap.proofs.auditing.print_found.Goals as goal

pub returns-in-Err : goal.returns-in-Err
returns-in-Err g c = λ disk untouched kept.
    rw c.tell_starved.ensures.failure (record { untouched = untouched; still = record { bytes = refl; count = refl }; none = refl }, c.tell_starved.ensures.last, kept)
