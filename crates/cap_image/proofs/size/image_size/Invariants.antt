use Rattle.std.proofs.Common.{◌≡◌, ◌+◌, length}
use Rattle.cap_image.specs.MemoryParts.{records_below, bodies_below}
use Rattle.cap_image.proofs.size.image_size.Given as goal

abbrev pub invariant-loop-i : goal.invariant-loop-i
invariant-loop-i l = l.size ≡ 16 + (length (records_below l.names l.memories l.i) + length (bodies_below l.symbols l.memories l.i))
