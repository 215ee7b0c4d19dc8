use Rattle.std.proofs.Common.{arith}
use Rattle.cap_layout.proofs.PieceCommons.{all_more, numbers_more}
use Rattle.cap_layout.proofs.commons.add_commons.Goals as goal

pub loop-row-preserved : goal.loop-row-preserved
loop-row-preserved c = record {
  all = all_more c.args.all.now c.loop-row.all c.add_common.new.all c.args.table.now c.loop-row.row c.entry.result (omega arith) c.entry.ensures c.loop-row.invariant.all c.in_ok-add_common.ensures.all;
  commons = numbers_more c.args.all.now c.loop-row.all c.args.table.now c.loop-row.row c.entry.result c.in_ok-add_common.field-0 c.loop-row.commons.items c.push.new.self.items (omega arith) c.entry.ensures c.requires.sections c.requires.apart c.loop-row.invariant.all c.in_ok-add_common.ensures.number c.in_ok-push.ensures.items c.loop-row.invariant.commons;
}
