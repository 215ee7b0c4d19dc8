use Rattle.purecap.specs.LinkWords.{link_meant}
use Rattle.purecap.proofs.LinkSteps.{link_made, link_stops}
use Rattle.purecap.proofs.linking.link_inputs.Goals as goal

pub returns-in-Ok-link : goal.returns-in-Ok-link
returns-in-Ok-link c = λ reads kept. (link_made (link_meant c.args.words.now) c.args.inputs c.in-Ok.kind c.in-Ok.ensures _ c.in-Ok-link.ensures.file, kept)

pub returns : goal.returns
returns c =
    rw c.stop_of.ensures
    (link_stops (link_meant c.args.words.now) c.args.inputs c.in-Ok.kind c.in-Ok.ensures c.in-Err.refusal.name c.in-Err.refusal.refusal c.in-Err.ensures.refused c.in-Err.ensures.named)
