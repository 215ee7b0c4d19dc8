use Rattle.std.proofs.Common.{◌≡◌, ◌-◌}
use Rattle.cap_mem.specs.Held.{without_range}
use Rattle.cap_mem.proofs.memory.Memory.clear_range.Given as goal

abbrev pub invariant-loop-g : goal.invariant-loop-g
invariant-loop-g l = l.self ≡ record { base = l.fn.self.base; bytes = l.fn.self.bytes; words = without_range l.fn.self.base l.first (l.g - l.first) l.fn.self.words }
