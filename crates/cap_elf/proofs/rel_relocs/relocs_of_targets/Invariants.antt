use Rattle.std.proofs.Common.{◌≡◌, drop}
use Rattle.cap_base.specs.Steps.{steps}
use Rattle.cap_elf.specs.RelRelocs.{relocs_step, relocs_at}
use Rattle.cap_elf.proofs.rel_relocs.relocs_of_targets.Given as goal

abbrev pub invariant-loop-target : goal.invariant-loop-target
invariant-loop-target l = steps (relocs_step l.bytes) l.relocs.items (drop l.target-index l.targets) ≡ relocs_at l.bytes l.targets
