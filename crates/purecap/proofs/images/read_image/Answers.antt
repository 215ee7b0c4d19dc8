use Rattle.std.proofs.lemmas.Result.{err_from_is_err_and}
use Rattle.purecap.proofs.Shown.{image_unread, image_read}
use Rattle.purecap.proofs.images.read_image.Goals as goal

pub returns-in_err-bytes-clause-image : goal.returns-in_err-bytes-clause-image
returns-in_err-bytes-clause-image g c =
    let p = err_from_is_err_and c.from_residual.result c.from_residual.ensures.1 in
    rw (p.1, p.2) (image_unread _ _ _ _ c.in_err-bytes.field-0.0 c.in_err-bytes.ensures.reads c.in_err-bytes.ensures.read_cause)

pub returns-clause-image : goal.returns-clause-image
returns-clause-image g c =
    image_read (λ image. image) _ _ _ c.in_ok-bytes.bytes.items c.image_of.result c.in_ok-bytes.ensures.reads c.in_ok-bytes.ensures.read_cause c.image_of.ensures
