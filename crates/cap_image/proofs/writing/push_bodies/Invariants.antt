use Rattle.std.proofs.Common.{◌≡◌, ◌++◌}
use Rattle.cap_image.specs.MemoryParts.{bodies_below, AreSound}
use Rattle.cap_image.proofs.writing.push_bodies.Given as goal

abbrev pub invariant-loop-memory : goal.invariant-loop-memory
invariant-loop-memory l = record {
  text : l.text.items ≡ l.initial.text.items ++ bodies_below l.symbols l.memories l.memory-index;
  sound : AreSound l.memories l.memory-index;
}
