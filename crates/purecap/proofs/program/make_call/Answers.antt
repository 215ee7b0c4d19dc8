use Rattle.std.proofs.Common.{[], refl}
use Rattle.purecap.proofs.Outcomes.{leads_made}
use Rattle.purecap.proofs.Steps.{makes_refused}
use Rattle.purecap.proofs.program.make_call.Goals as goal

pub returns-in-Ok-clause-made : goal.returns-in-Ok-clause-made
returns-in-Ok-clause-made g c =
    let opened = c.in-Ok.ensures {u = tt} in
    record {
      notes = [];
      says = (record { bytes = refl; count = refl }, refl);
      leads = leads_made _ _ _ _ c.in-Ok.field-0 (rw (c.mode.ensures, c.as_str.ensures.value) at opened.state) opened.ready.dir opened.ready.rule;
      reads_kept = opened.reads;
    }

pub returns-in-Err-clause-made : goal.returns-in-Err-clause-made
returns-in-Err-clause-made g c =
    let opened = c.in-Err.ensures {u = tt} in
    makes_refused _ _ _ _ _ _ _ _ _ _ _ _ (rw (c.mode.ensures, c.as_str.ensures.value) at opened.state) opened.err opened.reads c.pass_over.ensures
