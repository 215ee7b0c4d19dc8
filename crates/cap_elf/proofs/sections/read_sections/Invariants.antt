use Rattle.std.proofs.Common.{◌≡◌, length, drop}
use Rattle.cap_base.specs.Steps.{steps}
use Rattle.cap_elf.specs.Sections.{section_step, sections_of}
use Rattle.cap_elf.proofs.sections.read_sections.Given as goal

abbrev pub invariant-loop-header : goal.invariant-loop-header
invariant-loop-header l = record {
  so_far : steps (section_step l.file_len l.names) l.sections.items (drop l.header-index l.headers) ≡ sections_of l.file_len l.names l.headers;
  len : length l.sections.items ≡ l.header-index;
}
