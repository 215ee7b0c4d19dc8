use Rattle.std.proofs.Common.{refl}
use Rattle.purecap.specs.ProgramWords.{program_meant}
use Rattle.purecap.proofs.LoadEnds.{audits_of, audits_unread}
use Rattle.purecap.proofs.Said.{first_line}
use Rattle.purecap.proofs.auditing.audit.Goals as goal

pub returns-in-Ok : goal.returns-in-Ok
returns-in-Ok g c =
    let read = c.in-Ok.ensures {u = tt} in
    audits_of c.args.image.now (program_meant c.args.words.now) _ _ _ _ _ read.image.file read.image.yields.0 read.image.is_file
    (rw (read.same_told, read.same_writing, read.write_count, read.image.yields.1) at c.audit_image.ensures)

pub returns-in-Err : goal.returns-in-Err
returns-in-Err g c =
    let failed = c.in-Err.ensures {u = tt} in
    audits_unread c.args.image.now (program_meant c.args.words.now) _ _ _ (λ image. image) _ failed.image (record { files = failed.same_told; writing = failed.same_writing; count = failed.write_count })
    (record { bytes = refl; count = refl }) (first_line _ _ _ _ _ _ (rw c.as_bytes.ensures.value at c.tell.ensures))
