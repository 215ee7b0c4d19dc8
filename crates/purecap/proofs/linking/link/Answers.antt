use Rattle.purecap.specs.LinkWords.{link_meant}
use Rattle.purecap.proofs.LinkEnds.{links_saved, links_stopped}
use Rattle.purecap.proofs.linking.link.Goals as goal

pub returns-in-Ok : goal.returns-in-Ok
returns-in-Ok g c =
    let made = c.in-Ok.ensures {u = tt} in
    λ out still. links_saved _ (link_meant c.args.words.now) _ _ _ _ _ _ _ _ out _ _ _ _ _ _ made.links still
    (rw (made.same_told, made.same_writing, made.write_count, c.as_str.ensures.value, c.deref.ensures.value) at c.save_output.ensures)

pub returns-in-Err : goal.returns-in-Err
returns-in-Err g c =
    let failed = c.in-Err.ensures {u = tt} in
    rw c.end_with.ensures.failure (λ out still. links_stopped _ (link_meant c.args.words.now) _ out _ _ failed.links (record { files = failed.same_told; writing = failed.same_writing; count = failed.write_count }) still
    c.end_with.ensures.says)
