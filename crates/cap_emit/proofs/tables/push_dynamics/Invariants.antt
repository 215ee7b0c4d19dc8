use Rattle.std.proofs.Common.{◌≡◌, ◌++◌, take}
use Rattle.std.specs.List.{flat_map}
use Rattle.cap_emit.specs.Records.{entry_bytes}
use Rattle.cap_emit.proofs.tables.push_dynamics.Given as goal

abbrev pub invariant-loop-entry : goal.invariant-loop-entry
invariant-loop-entry l = l.file.items ≡ l.initial.file.items ++ flat_map entry_bytes (take l.entry-index l.entry-items)
