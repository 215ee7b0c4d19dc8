use Rattle.std.proofs.Common.{◌≡◌, ◌++◌}
use Rattle.cap_image.specs.MemoryParts.{records_below}
use Rattle.cap_image.proofs.writing.push_objects.Given as goal

abbrev pub invariant-loop-i : goal.invariant-loop-i
invariant-loop-i l = l.text.items ≡ l.initial.text.items ++ records_below l.names l.memories l.i
