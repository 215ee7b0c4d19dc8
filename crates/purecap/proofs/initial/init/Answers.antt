use Rattle.std.proofs.Common.{refl}
use Rattle.std.proofs.lemmas.Result.{err_from_is_err_and}
use Rattle.purecap.specs.Answer.{called}
use Rattle.purecap.specs.ProgramWords.{program_meant}
use Rattle.purecap.specs.Run.{IsCallList}
use Rattle.purecap.specs.Calling.{outcome_in}
use Rattle.purecap.proofs.Coming.{comes_ended}
use Rattle.purecap.proofs.Ended.{called_is}
use Rattle.purecap.proofs.LoadEnds.{inits_of}
use Rattle.purecap.proofs.initial.init.Goals as goal

pub returns-in_err-session : goal.returns-in_err-session
returns-in_err-session g c =
    let p = err_from_is_err_and c.from_residual.result c.from_residual.ensures.1 in
    let failed = c.in_err-session.ensures {u = tt} in
    let words = program_meant c.args.words.now in
    rw (p.1, p.2)
    (inits_of words _ _ _ _ _ (comes_ended called IsCallList called_is _ _ _ _ _ failed.begins
    (record { files = failed.same_told; writing = failed.same_writing; count = failed.write_count }) (record { bytes = refl; count = refl })))

pub returns : goal.returns
returns g c =
    let begun = c.in_ok-session.ensures {u = tt} in
    let words = program_meant c.args.words.now in
    let carried = rw (begun.same_told, begun.same_writing, begun.write_count, begun.begins.reads_kept, begun.begins.still.bytes, begun.begins.still.count) at c.carry_out-end.ensures in
    inits_of words _ _ _ _ _ (carried (outcome_in _ words) begun.begins.leads)
