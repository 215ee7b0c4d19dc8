use Rattle.std.proofs.Common.{sym, subst}
use Rattle.cap_session.specs.declared.refusal.OpenCause.{OpenCause}
use Rattle.cap_session.specs.Causes.{IsCausedBy}
use Rattle.cap_session.specs.Loading.{records_from}
use Rattle.cap_session.proofs.Causing.{adopt_refused}
use Rattle.cap_session.proofs.fetching.read_object.Goals as goal

pub returns-in-Err-new-clause-leads : goal.returns-in-Err-new-clause-leads
returns-in-Err-new-clause-leads c =
    subst (λ (cause : OpenCause). IsCausedBy (records_from c.args.bytes.now) cause) (sym c.refusal_cause.ensures)
    (adopt_refused c.args.bytes.now c.in-Ok.file c.in-Err-new.refusal c.in-Ok.ensures.value c.in-Err-new.ensures)
