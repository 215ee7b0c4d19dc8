use Rattle.std.proofs.Common.{◌≡◌, ◌++◌, take}
use Rattle.std.specs.List.{flat_map}
use Rattle.cap_emit.specs.Records.{cap_reloc_bytes}
use Rattle.cap_emit.proofs.tables.push_cap_relocs.Given as goal

abbrev pub invariant-loop-cap_reloc : goal.invariant-loop-cap_reloc
invariant-loop-cap_reloc l = l.file.items ≡ l.initial.file.items ++ flat_map cap_reloc_bytes (take l.cap_reloc-index l.cap_reloc-items)
