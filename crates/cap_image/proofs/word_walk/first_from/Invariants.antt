use Rattle.std.proofs.Common.{◌≡◌}
use Rattle.cap_mem.specs.Tagged.{first_granule}
use Rattle.cap_image.specs.WordWalk.{lists_from}
use Rattle.cap_image.proofs.word_walk.first_from.Given as goal

abbrev pub invariant-loop-owner : goal.invariant-loop-owner
invariant-loop-owner l = first_granule (lists_from l.memory.words l.owner) ≡ first_granule (lists_from l.memory.words l.from)
