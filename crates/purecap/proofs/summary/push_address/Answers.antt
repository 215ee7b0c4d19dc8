use Rattle.std.proofs.Common.{append-nil, sym, ◌∙◌}
use Rattle.purecap.proofs.WordSums.{no_address}
use Rattle.purecap.proofs.summary.push_address.Goals as goal

pub returns-else-is_tagged : goal.returns-else-is_tagged
returns-else-is_tagged c =
    let tag = rw c.base.ensures at c.word_at-is_tagged.ensures.tag in
    rw (no_address c.args.memory.now c.args.k (sym tag ∙ c.if-is_tagged.false)) (sym (append-nil c.args.addresses.now.items))
