use Rattle.std.proofs.Common.{◌≡◌, ◌++◌, drop}
use Rattle.std.specs.List.{flat_map}
use Rattle.cap_table.specs.Bodies.{slot_held}
use Rattle.cap_table.proofs.bodies.slots.Given as goal

abbrev pub invariant-loop-target : goal.invariant-loop-target
invariant-loop-target l = l.bytes.items ++ flat_map slot_held (drop l.target-index l.targets) ≡ flat_map slot_held l.targets
