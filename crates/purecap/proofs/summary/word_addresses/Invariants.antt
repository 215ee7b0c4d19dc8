use Rattle.std.proofs.Common.{◌≡◌, take}
use Rattle.std.specs.List.{flat_map}
use Rattle.purecap.specs.Summing.{memory_addresses}
use Rattle.purecap.proofs.summary.word_addresses.Given as goal

abbrev pub invariant-loop-memory : goal.invariant-loop-memory
invariant-loop-memory l = l.addresses.items ≡ flat_map memory_addresses (take l.memory-index l.memories)
