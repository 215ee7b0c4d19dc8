use Rattle.std.proofs.Common.{◌≡◌, drop, length}
use Rattle.std.specs.List.{enumerate_from}
use Rattle.cap_base.specs.Steps.{steps}
use Rattle.cap_elf.specs.RelObject.{file_of}
use Rattle.cap_table.specs.Checks.{record_step}
use Rattle.cap_table.proofs.walking.record_steps.Given as goal

abbrev pub invariant-loop : goal.invariant-loop
invariant-loop l = record {
  so_far : steps (record_step l.sources l.pieces.all l.file) l.walk.steps.items (drop l.counter (enumerate_from 0 (file_of l.sources.rels l.file).relocs)) ≡ steps (record_step l.sources l.pieces.all l.file) l.fn.steps.items (enumerate_from 0 (file_of l.sources.rels l.file).relocs);
  walked : l.walk.walked ≡ record { relocs = (file_of l.sources.rels l.file).relocs; done = l.counter; sections = length (file_of l.sources.rels l.file).sections };
}
