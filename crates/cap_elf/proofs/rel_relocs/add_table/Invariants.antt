use Rattle.std.proofs.Common.{◌≡◌, ◌++◌}
use Rattle.cap_elf.specs.Records.{table}
use Rattle.cap_elf.specs.RelRelocs.{rel_reloc_at}
use Rattle.cap_elf.proofs.rel_relocs.add_table.Given as goal

abbrev pub invariant-loop-i : goal.invariant-loop-i
invariant-loop-i l = l.relocs.items ≡ l.fn.relocs.items ++ table (rel_reloc_at l.bytes l.section) l.place.at 24 l.i
