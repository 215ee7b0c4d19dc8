use Rattle.std.proofs.Common.{◌≡◌, map, take}
use Rattle.cap_demo.specs.Choices.{size_of}
use Rattle.cap_demo.proofs.choices.draw_sizes.Given as goal

abbrev pub invariant-loop-value : goal.invariant-loop-value
invariant-loop-value l = l.sizes.items ≡ map size_of (take l.value-index l.value-items)
