use Rattle.std.proofs.Common.{arith}
use Rattle.std.specs.List.{enumerate_from}
use Rattle.std.proofs.lemmas.List.FromFn.{length-enumerate_from}
use Rattle.cap_layout.proofs.PieceFlats.{numbered_part, class_step, flat_done}
use Rattle.cap_layout.proofs.cutting.add_class.Goals as goal

pub loop-file-preserved : goal.loop-file-preserved
loop-file-preserved c =
    class_step c.args.rels.now c.args.class c.loop-file.file c.index-rels-file.result c.loop-file.all c.add_file.new.all _ (omega arith) c.index-rels-file.is c.in_ok-add_file.ensures c.loop-file.invariant

pub returns : goal.returns
returns c = flat_done (numbered_part c.args.class) (enumerate_from 0 c.args.rels.now) c.loop-file.file c.loop-file.all _ (omega (arith, length-enumerate_from 0 c.args.rels.now)) c.loop-file.invariant
