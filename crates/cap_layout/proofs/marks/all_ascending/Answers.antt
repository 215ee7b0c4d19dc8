use Rattle.std.proofs.Common.{◌∙◌, arith}
use Rattle.cap_layout.proofs.MarkLists.{closed_more}
use Rattle.cap_layout.proofs.marks.all_ascending.Goals as goal

pub loop-i-preserved : goal.loop-i-preserved
loop-i-preserved c =
    c.in_ok-push.ensures.items ∙ closed_more c.args.sections.now c.args.lists.now c.loop-i.i c.loop-i.marks.items c.index-lists-i.result _ _ (omega arith) c.requires c.index-lists-i.is c.in_ok-ascending.ensures c.loop-i.invariant
