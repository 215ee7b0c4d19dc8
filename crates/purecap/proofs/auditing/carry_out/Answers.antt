use Rattle.std.proofs.Common.{refl, ap}
use Rattle.std.proofs.lemmas.Result.{err_from_is_err_and}
use Rattle.cap_loaded.specs.Images.{state_image}
use Rattle.purecap.specs.Answer.{compared}
use Rattle.purecap.specs.Run.{IsComparison}
use Rattle.purecap.proofs.Coming.{comes_ended, comes_finished, image_is}
use Rattle.purecap.proofs.Ended.{compared_is}
use Rattle.purecap.proofs.Steps.{calls_named}
use Rattle.purecap.proofs.auditing.carry_out.Goals as goal

pub make_calls-requires-clause-names : goal.make_calls-requires-clause-names
make_calls-requires-clause-names g c = rw c.deref.ensures.value (calls_named c.args.words.now.calls.items c.requires.names.names)

pub returns-in_err-so_far : goal.returns-in_err-so_far
returns-in_err-so_far g c =
    let p = err_from_is_err_and c.from_residual.result c.from_residual.ensures.1 in
    let failed = c.in_err-so_far.ensures {u = tt} in
    let path = c.args.path.now in
    let given = c.args.given.now in
    rw (p.1, p.2) (λ outcome leads. comes_ended (λ state. compared path given (state_image state)) (IsComparison path given) (compared_is path given) outcome _ _ _ _ ((rw c.deref.ensures.value at failed.calls) outcome leads)
    (record { files = failed.same_told; writing = failed.same_writing; count = failed.write_count }) (record { bytes = refl; count = refl }))

pub returns : goal.returns
returns g c =
    let made = c.in_ok-so_far.ensures {u = tt} in
    let path = c.args.path.now in
    let given = c.args.given.now in
    λ outcome leads. comes_finished (λ state. compared path given (state_image state)) (IsComparison path given) (compared_is path given) _ _ _ _ outcome _ _ _ _ _ _ _ _ _ _ _ _ _ (rw c.deref.ensures.value at made.calls)
    (λ state stands. ap (compared path given) (image_is _ state made.session stands)) (_, refl) leads
    (c.print_findings.ensures _ (record { files = made.same_told; writing = made.same_writing; count = made.write_count }) made.calls.reads_kept)
