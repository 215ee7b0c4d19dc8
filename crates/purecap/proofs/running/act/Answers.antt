use Rattle.std.proofs.Common.{refl}
use Rattle.purecap.proofs.Said.{first_line}
use Rattle.purecap.proofs.Ended.{fails_of}
use Rattle.purecap.proofs.WordFaults.{words_fail}
use Rattle.purecap.proofs.running.act.Goals as goal

pub returns-in-Ok-Show : goal.returns-in-Ok-Show
returns-in-Ok-Show g c = rw ((c.in-Ok-Show.ensures {u = tt}).meaning, c.in-Ok-Show.field-0-is, c.requires) (rw c.as_str.ensures.value at c.show.ensures)

pub returns-in-Ok-Link : goal.returns-in-Ok-Link
returns-in-Ok-Link g c =
    rw ((c.in-Ok-Link.ensures {u = tt}).meaning, c.in-Ok-Link.field-0-is, c.requires) (c.link.ensures _ (record { bytes = refl; count = refl }))

pub returns-in-Ok-Demo : goal.returns-in-Ok-Demo
returns-in-Ok-Demo g c =
    rw ((c.in-Ok-Demo.ensures {u = tt}).meaning, c.in-Ok-Demo.field-0-is, c.requires) (c.demo.ensures _ (record { files = refl; writing = refl; count = refl }) refl)

pub returns-in-Err : goal.returns-in-Err
returns-in-Err g c =
    let failed = c.in-Err.ensures {u = tt} in
    fails_of _ _ _ _ (record { untouched = record { files = refl; writing = refl; count = refl }; still = record { bytes = refl; count = refl }; none = c.requires }) refl _ _ failed.meaning (words_fail _)
    (first_line _ _ _ _ _ _ c.tell.ensures)
