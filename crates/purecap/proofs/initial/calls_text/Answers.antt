use Rattle.purecap.proofs.Initials.{session_numbered, session_spans}
use Rattle.purecap.proofs.initial.calls_text.Goals as goal

pub calls-requires-clause-spans : goal.calls-requires-clause-spans
calls-requires-clause-spans c = rw (c.memories.ensures, c.objects.ensures.objects) (session_spans c.args.session.now c.requires)

pub report-requires : goal.report-requires
report-requires c =
    rw (c.names.ensures, c.as_slice.ensures, c.in_ok-calls.ensures, c.objects.ensures.objects, c.memories.ensures)
    (session_numbered c.args.session.now c.requires c.deref.result.now (rw c.deref.ensures.value (rw c.deps.ensures at c.in_ok-order.ensures.inside)))
