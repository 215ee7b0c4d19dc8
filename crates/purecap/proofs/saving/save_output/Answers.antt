use Rattle.std.proofs.Common.{refl}
use Rattle.purecap.proofs.saving.save_output.Goals as goal

pub returns-in-Err : goal.returns-in-Err
returns-in-Err g c =
    let failed = c.in-Err.ensures {u = tt} in
    (refl, record { files = failed.saves; rose = failed.rose }, (c.tell_next.result, rw c.as_bytes.ensures.value at c.tell_next.ensures), failed.read_count)
