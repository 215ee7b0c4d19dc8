use Rattle.std.proofs.Common.{◌≡◌, map, take}
use Rattle.cap_layout.specs.Marked.{start_of}
use Rattle.cap_layout.proofs.marks.section_starts.Given as goal

abbrev pub invariant-loop-section : goal.invariant-loop-section
invariant-loop-section l = l.lists.items ≡ map start_of (take l.section-index l.sections)
