use Rattle.std.proofs.Common.{refl, ◌∙◌}
use Rattle.std.proofs.lemmas.List.{drop_all}
use Rattle.std.proofs.lemmas.Result.{err_from_is_err_and}
use Rattle.purecap.specs.ProgramWords.{call_meant}
use Rattle.purecap.proofs.Steps.{called_none, called_more, called_ended, next_item}
use Rattle.purecap.proofs.program.make_calls.Goals as goal

pub loop-call-init : goal.loop-call-init
loop-call-init g c = (called_none _ _ _ _ _ _, c.requires.session, refl, refl, refl)

pub returns-in_err-so_far-clause-calls : goal.returns-in_err-so_far-clause-calls
returns-in_err-so_far-clause-calls g c =
    let p = err_from_is_err_and c.from_residual.result c.from_residual.ensures.1 in
    let at = c.loop-call.invariant in
    let called = rw (next_item call_meant c.args.calls.now c.loop-call.call-index c.call-item.result c.loop-call-test.true c.call-item.is) at at.0 in
    let ended = rw at.2 at (c.in_err-so_far.ensures {u = tt}).made in
    rw (p.1, p.2) (called_ended _ _ _ _ _ _ _ _ _ _ _ _ _ _ _ _ _ called ended)

pub returns-in_err-so_far-clause-same_told : goal.returns-in_err-so_far-clause-same_told
returns-in_err-so_far-clause-same_told g c = c.make_call.ensures.same_told ∙ c.loop-call.invariant.2

pub returns-in_err-so_far-clause-same_writing : goal.returns-in_err-so_far-clause-same_writing
returns-in_err-so_far-clause-same_writing g c = c.make_call.ensures.same_writing ∙ c.loop-call.invariant.3

pub returns-in_err-so_far-clause-write_count : goal.returns-in_err-so_far-clause-write_count
returns-in_err-so_far-clause-write_count g c = c.make_call.ensures.write_count ∙ c.loop-call.invariant.4

pub loop-call-preserved : goal.loop-call-preserved
loop-call-preserved g c =
    let at = c.loop-call.invariant in
    let made = c.in_ok-so_far.ensures {u = tt} in
    let called = rw (next_item call_meant c.args.calls.now c.loop-call.call-index c.call-item.result c.loop-call-test.true c.call-item.is) at at.0 in (
      called_more _ _ _ _ _ _ _ _ _ _ _ _ _ _ _ _ _ _ called (rw at.2 at made.made),
      made.session,
      made.same_told ∙ at.2,
      made.same_writing ∙ at.3,
      made.write_count ∙ at.4,
    )

pub returns-clause-calls : goal.returns-clause-calls
returns-clause-calls g c = rw (drop_all c.loop-call.call-index c.args.calls.now c.loop-call-test.false) at c.loop-call.invariant.0

pub returns-clause-session : goal.returns-clause-session
returns-clause-session g c = c.loop-call.invariant.1

pub returns-clause-same_told : goal.returns-clause-same_told
returns-clause-same_told g c = c.loop-call.invariant.2

pub returns-clause-same_writing : goal.returns-clause-same_writing
returns-clause-same_writing g c = c.loop-call.invariant.3

pub returns-clause-write_count : goal.returns-clause-write_count
returns-clause-write_count g c = c.loop-call.invariant.4
