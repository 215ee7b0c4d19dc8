use Rattle.cap_syms.proofs.ResolvedLaw.{table_is_resolved}
use Rattle.cap_syms.proofs.laws.resolve_laws.Goals as goal

pub returns : goal.returns
returns c = λ rels program table read is. table_is_resolved rels read program table is
