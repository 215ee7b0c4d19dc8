use Rattle.cap_code.proofs.Lengths.{put_keeps}
use Rattle.cap_code.proofs.writing.put_bytes.Goals as goal

pub returns-clause-long : goal.returns-clause-long
returns-clause-long c =
    put_keeps c.args.scene.now.laid.pieces.all c.args.scene.now.lists.plan c.args.bodies.now c.put.new.self c.args.piece c.args.at c.args.bytes.now c.requires.long c.requires.piece c.requires.inside c.put.ensures
