use Rattle.std.proofs.Common.{arith}
use Rattle.purecap.proofs.LinkSteps.{size_more}
use Rattle.purecap.proofs.linking.add_input.Goals as goal

pub returns-in-Ok-clause-size : goal.returns-in-Ok-clause-size
returns-in-Ok-clause-size c =
    let more = size_more c.args.inputs.now (c.args.word.now, c.args.bytes.items) in
    let before = c.requires.size in
    let count = c.len.ensures in
    rw c.in-Ok.ensures.ok (omega (arith, more, before, count))
