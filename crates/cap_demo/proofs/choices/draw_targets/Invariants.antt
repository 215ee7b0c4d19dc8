use Rattle.std.proofs.Common.{◌≡◌, map, take}
use Rattle.cap_demo.specs.Choices.{data_target}
use Rattle.cap_demo.proofs.choices.draw_targets.Given as goal

abbrev pub invariant-loop-value : goal.invariant-loop-value
invariant-loop-value l = l.targets.items ≡ map (data_target l.number) (take l.value-index l.value-items)
