use Rattle.std.proofs.lemmas.Result.{err_from_is_err_and}
use Rattle.purecap.proofs.Shown.{made_unread, made_read, reported}
use Rattle.purecap.proofs.showing.report_text.Goals as goal

pub returns-in_err-image-clause-text : goal.returns-in_err-image-clause-text
returns-in_err-image-clause-text g c =
    let p = err_from_is_err_and c.from_residual.result c.from_residual.ensures.1 in
    rw (p.1, p.2) (made_unread _ _ _ _ _ _ _ c.in_err-image.ensures.image)

pub returns-clause-text : goal.returns-clause-text
returns-clause-text g c = made_read _ _ _ _ _ _ c.in_ok-image.image c.text_of.result c.in_ok-image.ensures.image (reported _ _ c.text_of.result c.text_of.ensures)
