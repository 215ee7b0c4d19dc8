use Rattle.std.proofs.Common.{◌≡◌, drop}
use Rattle.cap_base.specs.Steps.{steps}
use Rattle.cap_elf.specs.Dynamic.{tag_step, used_of}
use Rattle.cap_elf.proofs.dynamic.used_entries.Given as goal

abbrev pub invariant-loop-entry : goal.invariant-loop-entry
invariant-loop-entry l = steps tag_step l.used.items (drop l.entry-index l.listed) ≡ used_of l.listed
