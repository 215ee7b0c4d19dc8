use Rattle.std.proofs.Common.{subst}
use Rattle.cap_mem.specs.Tagged.{TaggedMemory}
use Rattle.cap_mem.specs.IsMemory.{IsMemory}
use Rattle.cap_mem.proofs.Sound.{IsMemory-made}
use Rattle.cap_mem.proofs.memory.Memory.len.Goals as goal

pub returns-clause-sound : goal.returns-clause-sound
returns-clause-sound c = subst (λ (v : TaggedMemory). IsMemory v) c.self.view_is (IsMemory-made c.self.inside c.self.invariant)
