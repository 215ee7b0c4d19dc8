use Rattle.std.proofs.lemmas.Result.{err_from_is_err_and}
use Rattle.purecap.specs.LinkWords.{link_meant}
use Rattle.purecap.proofs.LinkAccepted.{inputs_named}
use Rattle.purecap.proofs.LinkSteps.{links_unread, links_read}
use Rattle.purecap.proofs.linking.link_files.Goals as goal

pub read_inputs-requires-clause-names : goal.read_inputs-requires-clause-names
read_inputs-requires-clause-names g c = rw c.deref.ensures.value (inputs_named c.args.words.now.inputs.items c.requires.inputs)

pub returns-in_err-inputs-clause-links : goal.returns-in_err-inputs-clause-links
returns-in_err-inputs-clause-links g c =
    let p = err_from_is_err_and c.from_residual.result c.from_residual.ensures.1 in
    rw (p.1, p.2) (links_unread _ _ (link_meant c.args.words.now) _ _ (rw c.deref.ensures.value at (c.in_err-inputs.ensures {u = tt}).reads))

pub returns-clause-links : goal.returns-clause-links
returns-clause-links g c = links_read _ _ (link_meant c.args.words.now) _ _ _ (rw c.deref.ensures.value at (c.in_ok-inputs.ensures {u = tt}).reads) c.link_inputs.ensures
