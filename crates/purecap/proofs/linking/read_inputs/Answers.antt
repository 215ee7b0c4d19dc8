use Rattle.std.proofs.Common.{◌+◌, ap, refl, ◌∙◌, arith}
use Rattle.std.specs.String.{string_bytes}
use Rattle.std.proofs.lemmas.Result.{err_from_is_err_and}
use Rattle.purecap.proofs.Steps.{next_item}
use Rattle.purecap.proofs.LinkSteps.{none_read, more_read, stop_read, size_none}
use Rattle.purecap.proofs.linking.read_inputs.Goals as goal

pub loop-word-init : goal.loop-word-init
loop-word-init g c = rw c.new-inputs.ensures (none_read _ _ _, refl, size_none, omega arith, refl, refl, refl)

pub returns-in_err-size-clause-reads : goal.returns-in_err-size-clause-reads
returns-in_err-size-clause-reads g c =
    let p = err_from_is_err_and c.from_residual.result c.from_residual.ensures.1 in
    let at = c.loop-word.invariant in
    let has = rw (next_item string_bytes c.args.words.now c.loop-word.word-index c.word-item.result c.loop-word-test.true c.word-item.is) at at.0 in
    let one = rw (at.4, c.as_str.ensures.value) at (c.in_err-size.ensures {u = tt}).reads in
    rw (p.1, p.2) (stop_read _ _ _ _ _ _ _ _ _ _ has one)

pub loop-word-preserved : goal.loop-word-preserved
loop-word-preserved g c =
    let at = c.loop-word.invariant in
    let made = c.in_ok-size.ensures {u = tt} in
    let has = rw (next_item string_bytes c.args.words.now c.loop-word.word-index c.word-item.result c.loop-word-test.true c.word-item.is) at at.0 in (
      more_read _ _ _ _ _ _ _ _ _ c.in_ok-size.size has (rw (at.4, c.as_str.ensures.value) at made.reads),
      made.count ∙ ap (λ n. n + 1) at.1,
      made.size,
      made.within,
      made.same_told ∙ at.4,
      made.same_writing ∙ at.5,
      made.write_count ∙ at.6,
    )
