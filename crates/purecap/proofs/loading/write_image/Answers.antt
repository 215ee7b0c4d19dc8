use Rattle.std.proofs.Common.{refl}
use Rattle.purecap.proofs.Finished.{saves_finished}
use Rattle.purecap.proofs.loading.write_image.Goals as goal

pub returns-in-Ok : goal.returns-in-Ok
returns-in-Ok g c = λ out still. saves_finished _ _ c.args.session.now.memories _ out _ _ _ (rw (c.deref.ensures.value, c.in-Ok.ensures.value) at c.save_output.ensures) still

pub returns-in-Err : goal.returns-in-Err
returns-in-Err g c = λ out still.
    rw c.tell_starved.ensures.failure (record { untouched = record { files = refl; writing = refl; count = refl }; still = still; none = refl }, c.tell_starved.ensures.last, refl)
