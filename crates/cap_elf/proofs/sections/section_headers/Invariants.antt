use Rattle.std.proofs.Common.{◌≡◌, length}
use Rattle.cap_elf.specs.Records.{table}
use Rattle.cap_elf.specs.Sections.{section_header_at}
use Rattle.cap_elf.proofs.sections.section_headers.Given as goal

abbrev pub invariant-loop-i : goal.invariant-loop-i
invariant-loop-i l = record {
  so_far : l.headers.items ≡ table (section_header_at l.bytes) l.place.at 64 l.i;
  len : length l.headers.items ≡ l.i;
}
