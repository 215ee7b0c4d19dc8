use Rattle.std.proofs.lemmas.Result.{err_from_is_err_and}
use Rattle.cap_base.specs.MemFiles.{store_in}
use Rattle.purecap.proofs.DemoSteps.{text_is, text_unlinked, text_unstarted}
use Rattle.purecap.proofs.demo.demo_summary.Goals as goal

pub returns-in_err-files : goal.returns-in_err-files
returns-in_err-files c =
    let p = err_from_is_err_and c.from_residual.result c.from_residual.ensures.1 in rw (p.1, p.2) (text_unlinked c.args.number _ c.in_err-files.ensures)

pub returns-in_err-session : goal.returns-in_err-session
returns-in_err-session c =
    let p = err_from_is_err_and c.from_residual-in_err-session.result c.from_residual-in_err-session.ensures.1 in
    rw (p.1, p.2) (text_unstarted c.args.number (store_in c.in_ok-files.files) _ c.in_ok-files.ensures c.in_err-session.ensures.begins)

pub returns : goal.returns
returns c =
    let begins = c.in_ok-session.ensures.begins in
    rw (text_is c.args.number (store_in c.in_ok-files.files) begins.0 c.in_ok-files.ensures begins.1)
    (rw c.in_ok-session.ensures.same at (c.sum_up-text.ensures begins.0 begins.2))
