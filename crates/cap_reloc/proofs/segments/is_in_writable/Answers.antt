use Rattle.std.proofs.Common.{sym, ◌∙◌}
use Rattle.cap_reloc.proofs.Holding.{writable_by_last}
use Rattle.cap_reloc.proofs.Within.{writable_within}
use Rattle.cap_reloc.proofs.segments.is_in_writable.Goals as goal

pub returns-clause-value : goal.returns-clause-value
returns-clause-value c =
    c.is_writable_at.ensures ∙ sym (writable_by_last c.args.file.now.records c.args.at c.args.len c.last_in.result c.requires c.last_in.ensures.last)

pub returns-clause-within : goal.returns-clause-within
returns-clause-within c = λ yes. writable_within c.args.file.now.records c.args.at c.args.len c.last_in.ensures.sound (sym (returns-clause-value c) ∙ yes)
