use Rattle.std.proofs.Common.{◌≡◌, map}
use Rattle.std.specs.List.{range_with_len}
use Rattle.cap_elf.specs.RelRelocs.{target_at}
use Rattle.cap_elf.proofs.rel_relocs.targets.Given as goal

abbrev pub invariant-loop-i : goal.invariant-loop-i
invariant-loop-i l = l.targets.items ≡ map (target_at l.sections) (range_with_len 0 l.i)
