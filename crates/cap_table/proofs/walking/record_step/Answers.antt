use Rattle.std.proofs.Common.{◌<◌, sym, subst}
use Rattle.cap_elf.specs.RelObject.{file_of}
use Rattle.cap_table.specs.Walked.{next_of}
use Rattle.cap_table.proofs.StepWalk.{next_is, few_done}
use Rattle.cap_table.proofs.walking.record_step.Goals as goal

pub checked_piece-requires-clause-section : goal.checked_piece-requires-clause-section
checked_piece-requires-clause-section c =
    let q = c.requires in
    let object = file_of c.args.sources.now.rels c.args.file in
    subst (λ n. (next_of c.args.walk.walked).section < n) (sym q.sections) (next_is object c.args.walk.walked q.read q.relocs q.more).section

pub checked_piece-requires-clause-symbol : goal.checked_piece-requires-clause-symbol
checked_piece-requires-clause-symbol c =
    let q = c.requires in
    (next_is (file_of c.args.sources.now.rels c.args.file) c.args.walk.walked q.read q.relocs q.more).symbol

pub index-index-requires : goal.index-index-requires
index-index-requires c =
    let q = c.requires in
    few_done (file_of c.args.sources.now.rels c.args.file) c.args.walk.walked q.read q.relocs q.more

pub add-requires-clause-section : goal.add-requires-clause-section
add-requires-clause-section c =
    let q = c.requires in
    let object = file_of c.args.sources.now.rels c.args.file in
    subst (λ n. (next_of c.args.walk.walked).section < n) (sym q.sections) (next_is object c.args.walk.walked q.read q.relocs q.more).section
