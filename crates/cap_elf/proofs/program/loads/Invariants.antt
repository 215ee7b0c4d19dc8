use Rattle.std.proofs.Common.{◌≡◌, drop}
use Rattle.cap_base.specs.Steps.{steps}
use Rattle.cap_elf.specs.Segments.{load_step, loads_of}
use Rattle.cap_elf.proofs.program.loads.Given as goal

abbrev pub invariant-loop-header : goal.invariant-loop-header
invariant-loop-header l = record {
  so_far : steps (load_step l.file_len) l.loads.segments.items (drop l.header-index l.headers) ≡ loads_of l.file_len l.headers;
  file_len : l.loads.file_len ≡ l.file_len;
}
