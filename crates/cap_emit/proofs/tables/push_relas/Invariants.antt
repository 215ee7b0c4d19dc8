use Rattle.std.proofs.Common.{◌≡◌, ◌++◌, take}
use Rattle.std.specs.List.{flat_map}
use Rattle.cap_emit.specs.Records.{rela_bytes}
use Rattle.cap_emit.proofs.tables.push_relas.Given as goal

abbrev pub invariant-loop-rela : goal.invariant-loop-rela
invariant-loop-rela l = l.file.items ≡ l.initial.file.items ++ flat_map rela_bytes (take l.rela-index l.rela-items)
