use Rattle.std.proofs.Common.{◌≡◌, drop}
use Rattle.cap_base.specs.Steps.{steps}
use Rattle.cap_elf.specs.FileNames.{name_step, names_of, names_view}
use Rattle.cap_elf.proofs.names.read_names.Given as goal

abbrev pub invariant-loop-entry : goal.invariant-loop-entry
invariant-loop-entry l = steps (name_step l.strings) (names_view l.names) (drop l.entry-index l.listed) ≡ names_of l.strings l.listed
