use Rattle.std.proofs.Common.{◌∙◌, arith}
use Rattle.cap_conc.proofs.ExactLemmas.{IsRepresentableLength-rounded, rounded-same}
use Rattle.cap_conc.proofs.representable.repr_len.Goals as goal

pub returns-else-len-lt4096-clause-length : goal.returns-else-len-lt4096-clause-length
returns-else-len-lt4096-clause-length c =
    let g = c.grain.ensures.power in
    IsRepresentableLength-rounded c.args.len g.0 c.grain.result _ (omega arith) g.1 g.2 (c.next_multiple_of.ensures.value ∙ rounded-same c.args.len c.grain.result (omega arith))
