use Rattle.std.proofs.Common.{sym, subst}
use Rattle.std.proofs.lemmas.Result.{err_from_is_err_and}
use Rattle.cap_session.specs.Refused.{CauseCounted}
use Rattle.cap_session.proofs.fetching.fetch.Goals as goal

pub returns-in_err-object-clause-reads : goal.returns-in_err-object-clause-reads
returns-in_err-object-clause-reads g c =
    let p = err_from_is_err_and c.from_residual-in_err-object.result c.from_residual-in_err-object.ensures.1 in
    let before = g.F.Files.read_faults c.args.files.now in
    rw (p.1, p.2) (subst (λ n. CauseCounted before n c.in_err-object.field-0.0) (sym c.in_ok-bytes.ensures.reads) (c.in_err-object.ensures.unread before))
