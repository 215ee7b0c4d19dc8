use Rattle.std.proofs.Common.{length}
use Rattle.cap_mem.proofs.Touched.{touched_gone}
use Rattle.cap_mem.proofs.memory.Memory.store_bytes.Goals as goal

pub put-requires-clause-untagged : goal.put-requires-clause-untagged
put-requires-clause-untagged c = λ a h. rw c.clear.ensures (touched_gone c.args.at (length c.args.bytes.now) a c.args.self.now.words h)
