use Rattle.std.proofs.lemmas.Result.{err_from_is_err_and}
use Rattle.purecap.specs.Images.{reached_in}
use Rattle.purecap.proofs.Shown.{made_unread, made_read}
use Rattle.purecap.proofs.reaching.reach_text.Goals as goal

pub returns-in_err-image-clause-text : goal.returns-in_err-image-clause-text
returns-in_err-image-clause-text g c =
    let p = err_from_is_err_and c.from_residual.result c.from_residual.ensures.1 in
    rw (p.1, p.2) (made_unread _ _ (reached_in c.args.slot) _ _ _ _ c.in_err-image.ensures.image)

pub returns-clause-text : goal.returns-clause-text
returns-clause-text g c = made_read _ _ (reached_in c.args.slot) _ _ _ c.in_ok-image.image c.text_of.result c.in_ok-image.ensures.image c.text_of.ensures
