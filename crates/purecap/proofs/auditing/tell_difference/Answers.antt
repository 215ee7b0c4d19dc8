use Rattle.std.proofs.Common.{sym, ◌∙◌}
use Rattle.purecap.proofs.Finished.{tells_some}
use Rattle.purecap.proofs.auditing.tell_difference.Goals as goal

pub returns : goal.returns
returns g c = tells_some c.args.path.now c.args.found.now _ _ (sym c.is_empty.ensures ∙ c.if-is_empty.false) (c.tell_next.result, rw c.as_bytes.ensures.value at c.tell_next.ensures)
