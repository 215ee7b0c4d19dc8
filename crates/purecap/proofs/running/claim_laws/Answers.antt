use Rattle.purecap.proofs.Claims.{ClaimLaws, claimed_run}
use Rattle.purecap.proofs.running.claim_laws.Goals as goal

pub returns : goal.returns
returns c =
    let loaded = c.loaded_laws.ensures in
    let said = c.state_laws.ensures in
    let laws : ClaimLaws = record { reads_back = loaded.reads_back; shown = loaded.shown; reached = said.reached; sound = said.runs; exact = c.exact_laws.ensures } in
    claimed_run laws
