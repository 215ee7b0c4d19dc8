use Rattle.cap_emit.proofs.Law.{they_fit}
use Rattle.cap_emit.proofs.laws.emit_laws.Goals as goal

pub returns : goal.returns
returns c = they_fit
