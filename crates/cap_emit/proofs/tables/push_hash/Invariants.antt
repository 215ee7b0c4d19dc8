use Rattle.std.proofs.Common.{◌≡◌, ◌++◌, take}
use Rattle.std.specs.List.{flat_map}
use Rattle.cap_emit.specs.Records.{field_bytes}
use Rattle.cap_emit.proofs.tables.push_hash.Given as goal

abbrev pub invariant-loop-word : goal.invariant-loop-word
invariant-loop-word l = l.file.items ≡ l.initial.file.items ++ flat_map (field_bytes 4) (take l.word-index l.word-items)
