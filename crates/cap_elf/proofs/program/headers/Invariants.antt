use Rattle.std.proofs.Common.{◌≡◌}
use Rattle.cap_elf.specs.Records.{table, program_header_at}
use Rattle.cap_elf.proofs.program.headers.Given as goal

abbrev pub invariant-loop-i : goal.invariant-loop-i
invariant-loop-i l = l.headers.items ≡ table (program_header_at l.bytes) l.place.at 56 l.i
