use Rattle.purecap.proofs.LoadImages.{ImageLaws, image_run}
use Rattle.purecap.proofs.running.image_laws.Goals as goal

pub returns : goal.returns
returns c =
    let loaded = c.loaded_laws.ensures in
    let laws : ImageLaws = record { reads_back = loaded.reads_back; holds = loaded.holds; written = c.audit_laws.ensures.written; calls = c.call_laws.ensures } in
    image_run laws
