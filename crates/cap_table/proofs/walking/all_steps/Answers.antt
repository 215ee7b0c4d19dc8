use Rattle.std.proofs.Common.{arith}
use Rattle.std.proofs.lemmas.Result.{err_from_is_err_and}
use Rattle.cap_elf.specs.RelObject.{no_object}
use Rattle.cap_table.specs.Checks.{file_steps, walk_of}
use Rattle.cap_table.proofs.StepWalk.{numbered_more, numbered_refusal, numbered_done}
use Rattle.cap_table.proofs.StepLaw.{steps_are}
use Rattle.cap_table.proofs.walking.all_steps.Goals as goal

pub returns-in_err-steps-clause-value : goal.returns-in_err-steps-clause-value
returns-in_err-steps-clause-value c =
    let named = c.args.sources.now in
    let pieces = c.args.pieces.now.all in
    let said = numbered_refusal (file_steps named pieces) c.loop-file.steps.items named.rels c.loop-file.file no_object (walk_of named pieces) c.in_err-steps.field-0.0 (omega arith) c.in_err-steps.ensures c.loop-file.invariant in
    let p = err_from_is_err_and c.from_residual.result c.from_residual.ensures.1 in rw (p.1, p.2) said

pub loop-file-preserved : goal.loop-file-preserved
loop-file-preserved c =
    let named = c.args.sources.now in
    let pieces = c.args.pieces.now.all in
    numbered_more (file_steps named pieces) c.loop-file.steps.items named.rels c.loop-file.file no_object (walk_of named pieces) c.in_ok-steps.steps.items (omega arith) c.in_ok-steps.ensures c.loop-file.invariant

pub returns-clause-value : goal.returns-clause-value
returns-clause-value c =
    let named = c.args.sources.now in
    let pieces = c.args.pieces.now.all in
    numbered_done (file_steps named pieces) c.loop-file.steps.items named.rels c.loop-file.file (walk_of named pieces) (omega arith) c.loop-file.invariant

pub returns-clause-steps : goal.returns-clause-steps
returns-clause-steps c = steps_are c.args.sources.now c.args.pieces.now.all c.loop-file.steps.items (returns-clause-value c)
