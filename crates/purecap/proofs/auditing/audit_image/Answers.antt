use Rattle.std.proofs.Common.{refl}
use Rattle.std.proofs.lemmas.Result.{err_from_is_err_and}
use Rattle.cap_loaded.specs.Images.{state_image}
use Rattle.purecap.specs.Answer.{compared}
use Rattle.purecap.specs.ProgramWords.{program_meant}
use Rattle.purecap.specs.Run.{IsComparison}
use Rattle.purecap.specs.Calling.{outcome_in}
use Rattle.purecap.proofs.Coming.{comes_ended}
use Rattle.purecap.proofs.Ended.{compared_is}
use Rattle.purecap.proofs.auditing.audit_image.Goals as goal

pub returns-in_err-session : goal.returns-in_err-session
returns-in_err-session g c =
    let p = err_from_is_err_and c.from_residual.result c.from_residual.ensures.1 in
    let failed = c.in_err-session.ensures {u = tt} in
    let path = c.args.path.now in
    let given = c.args.given.now in
    rw (p.1, p.2)
    (comes_ended (λ state. compared path given (state_image state)) (IsComparison path given) (compared_is path given) _ _ _ _ _ failed.begins
    (record { files = failed.same_told; writing = failed.same_writing; count = failed.write_count }) (record { bytes = refl; count = refl }))

pub returns : goal.returns
returns g c =
    let begun = c.in_ok-session.ensures {u = tt} in
    let carried = rw (begun.same_told, begun.same_writing, begun.write_count, begun.begins.reads_kept, begun.begins.still.bytes, begun.begins.still.count) at c.carry_out-end.ensures in
    carried (outcome_in _ (program_meant c.args.words.now)) begun.begins.leads
