use Rattle.std.proofs.Common.{refl}
use Rattle.std.proofs.lemmas.Result.{err_from_is_err_and}
use Rattle.purecap.specs.Answer.{saved}
use Rattle.purecap.specs.Run.{IsImageFile}
use Rattle.purecap.specs.Words.{load_meant}
use Rattle.purecap.proofs.Coming.{comes_ended, comes_finished, session_saved}
use Rattle.purecap.proofs.Ended.{saved_is}
use Rattle.purecap.proofs.Steps.{calls_named}
use Rattle.purecap.proofs.loading.carry_out.Goals as goal

pub make_calls-requires-clause-names : goal.make_calls-requires-clause-names
make_calls-requires-clause-names g c = rw c.deref.ensures.value (calls_named c.args.words.now.program.calls.items c.requires.names.program.names)

pub returns-in_err-so_far : goal.returns-in_err-so_far
returns-in_err-so_far g c =
    let p = err_from_is_err_and c.from_residual.result c.from_residual.ensures.1 in
    let failed = c.in_err-so_far.ensures {u = tt} in
    let image = (load_meant c.args.words.now).image in
    rw (p.1, p.2) (λ out still outcome leads. comes_ended (saved image) (IsImageFile image) (saved_is image) outcome _ out _ _ ((rw c.deref.ensures.value at failed.calls) outcome leads)
    (record { files = failed.same_told; writing = failed.same_writing; count = failed.write_count }) still)

pub returns : goal.returns
returns g c =
    let made = c.in_ok-so_far.ensures {u = tt} in
    let image = (load_meant c.args.words.now).image in
    λ out still outcome leads. comes_finished (saved image) (IsImageFile image) (saved_is image) _ _ _ _ outcome _ _ _ out _ _ _ _ _ _ _ _ _ (rw c.deref.ensures.value at made.calls) (session_saved image _ made.session) (refl, (_, _, refl)) leads
    ((rw (made.same_told, made.same_writing, made.write_count, made.calls.reads_kept, c.as_str.ensures.value) at c.write_image.ensures) out still)
