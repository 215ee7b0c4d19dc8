use Rattle.std.proofs.Common.{◌≡◌, ◌++◌}
use Rattle.std.specs.List.{flat_map, zip}
use Rattle.std.specs.Iterator.Adapters.{zip_first, zip_second}
use Rattle.std.specs.Slice.Iter.{iter_rest}
use Rattle.cap_emit.specs.Records.{symbol_bytes}
use Rattle.cap_emit.specs.Written.{symbol_table}
use Rattle.cap_emit.proofs.tables.push_symbols.Given as goal

abbrev pub invariant-loop-offset : goal.invariant-loop-offset
invariant-loop-offset l =
    l.file.items ++ flat_map symbol_bytes (zip (iter_rest (zip_first l.offset-iterator)) (iter_rest (zip_second l.offset-iterator))) ≡ l.initial.file.items ++ symbol_table l.lists
