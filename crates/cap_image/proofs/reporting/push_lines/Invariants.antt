use Rattle.std.proofs.Common.{◌≡◌, ◌≤◌, ◌+◌, ◌++◌, length, take}
use Rattle.std.specs.Prelude.{slice_index_or}
use Rattle.std.specs.List.{flat_map}
use Rattle.cap_image.specs.Parts.{no_object}
use Rattle.cap_image.specs.Report.{cap_line}
use Rattle.cap_image.proofs.reporting.push_lines.Given as goal

abbrev pub invariant-loop-granule : goal.invariant-loop-granule
invariant-loop-granule l = record {
  lines : l.text.items ≡ l.initial.text.items ++ flat_map (cap_line (slice_index_or l.image.objects l.i no_object)) (take l.granule-index l.granules);
  longer : length l.initial.text.items + l.granule-index ≤ length l.text.items;
}
