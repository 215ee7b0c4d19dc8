use Rattle.std.proofs.lemmas.Result.{err_from_is_err_and}
use Rattle.purecap.proofs.LinkSteps.{one_unread, one_read}
use Rattle.purecap.proofs.linking.read_input.Goals as goal

pub returns-in_err-bytes-clause-reads : goal.returns-in_err-bytes-clause-reads
returns-in_err-bytes-clause-reads g c =
    let p = err_from_is_err_and c.from_residual.result c.from_residual.ensures.1 in
    rw (p.1, p.2) (one_unread _ _ _ _ _ _ _ (c.in_err-bytes.ensures {u = tt}).fetches)

pub returns-clause-reads : goal.returns-clause-reads
returns-clause-reads g c = one_read _ _ _ _ _ _ _ _ (c.in_ok-bytes.ensures {u = tt}).fetches c.add_input.ensures.adds
