use Rattle.std.proofs.Common.{◌≡◌, ◌≤◌, ◌++◌, length, take}
use Rattle.std.specs.List.{flat_map}
use Rattle.cap_image.specs.Parts.{tagged_granules}
use Rattle.cap_image.specs.Report.{object_line, cap_lines}
use Rattle.cap_image.proofs.reporting.report.Given as goal

abbrev pub invariant-loop-i : goal.invariant-loop-i
invariant-loop-i l = l.text.items ≡ flat_map object_line (take l.i l.image.objects)

abbrev pub invariant-loop-i-2 : goal.invariant-loop-i-2
invariant-loop-i-2 l = record {
  lines : l.text.items ≡ flat_map object_line l.image.objects ++ flat_map cap_lines (take l.i l.image.objects);
  count : l.words ≡ length (flat_map tagged_granules (take l.i l.image.objects));
  longer : l.words ≤ length l.text.items;
}
