use Rattle.purecap.proofs.LinkSteps.{fetched, unfetched}
use Rattle.purecap.proofs.linking.read_bytes.Goals as goal

pub returns-in-Ok-clause-fetches : goal.returns-in-Ok-clause-fetches
returns-in-Ok-clause-fetches g c =
    let read = c.in-Ok.ensures in fetched _ _ _ _ _ read.reads read.read_cause

pub returns-in-Err-clause-fetches : goal.returns-in-Err-clause-fetches
returns-in-Err-clause-fetches g c =
    let failed = c.in-Err.ensures in rw c.from.ensures (unfetched _ _ _ _ c.in-Err.refusal failed.reads failed.read_cause)
