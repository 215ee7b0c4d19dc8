use Rattle.std.proofs.Common.{◌≡◌, ◌≤◌, ◌+◌, ◌*◌, drop}
use Rattle.std.specs.Prelude.{IfSome}
use Rattle.cap_base.specs.Steps.{steps}
use Rattle.cap_elf.specs.Marks.{mark_step, marks_of}
use Rattle.cap_elf.proofs.program.read_marks.Given as goal

abbrev pub invariant-loop-header : goal.invariant-loop-header
invariant-loop-header l = record {
  so_far : steps (mark_step l.loads.segments.items) l.marks (drop l.header-index l.headers) ≡ marks_of l.loads.segments.items l.headers;
  inside : IfSome l.marks.dynamic (λ t. t.at + 16 * t.count ≤ l.loads.file_len);
}
