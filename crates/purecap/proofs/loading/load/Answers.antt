use Rattle.std.proofs.lemmas.Result.{err_from_is_err_and}
use Rattle.purecap.specs.Answer.{saved}
use Rattle.purecap.specs.Run.{IsImageFile}
use Rattle.purecap.specs.Words.{load_meant}
use Rattle.purecap.specs.Calling.{outcome_in}
use Rattle.purecap.proofs.Coming.{comes_ended}
use Rattle.purecap.proofs.Ended.{saved_is}
use Rattle.purecap.proofs.LoadEnds.{loads_of}
use Rattle.purecap.proofs.loading.load.Goals as goal

pub returns-in_err-session : goal.returns-in_err-session
returns-in_err-session g c =
    let p = err_from_is_err_and c.from_residual.result c.from_residual.ensures.1 in
    let failed = c.in_err-session.ensures {u = tt} in
    let words = load_meant c.args.words.now in
    rw (p.1, p.2, c.requires.none)
    (λ out still. loads_of words _ out _ _ _ (comes_ended (saved words.image) (IsImageFile words.image) (saved_is words.image) _ _ out _ _ failed.begins
    (record { files = failed.same_told; writing = failed.same_writing; count = failed.write_count }) still))

pub returns : goal.returns
returns g c =
    let begun = c.in_ok-session.ensures {u = tt} in
    let words = load_meant c.args.words.now in
    let carried = rw (begun.same_told, begun.same_writing, begun.write_count, begun.begins.reads_kept, begun.begins.still.bytes, begun.begins.still.count) at c.carry_out-end.ensures in
    rw (c.keep.ensures.end, c.keep.ensures.kept, c.end.ensures)
    (λ out still. loads_of words _ out _ _ _ (carried out still (outcome_in _ words.program) begun.begins.leads))
