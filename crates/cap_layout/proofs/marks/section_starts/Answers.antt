use Rattle.std.proofs.Common.{◌∙◌, arith}
use Rattle.cap_layout.proofs.MarkLists.{starts_more}
use Rattle.cap_layout.proofs.marks.section_starts.Goals as goal

pub loop-section-preserved : goal.loop-section-preserved
loop-section-preserved c =
    c.in_ok-push.ensures.items ∙ starts_more c.args.sections.now c.loop-section.section-index c.loop-section.lists.items _ (omega arith) c.loop-section.invariant c.in_ok-new.ensures
