use Rattle.std.proofs.Common.{◌≡◌}
use Rattle.cap_elf.specs.Records.{table, symbol_entry_at}
use Rattle.cap_elf.proofs.symbols.symbol_entries.Given as goal

abbrev pub invariant-loop-i : goal.invariant-loop-i
invariant-loop-i l = l.entries.items ≡ table (symbol_entry_at l.bytes) l.place.at 24 l.i
