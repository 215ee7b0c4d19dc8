use Rattle.std.proofs.Common.{◌≡◌, ◌≤◌, ◌*◌, length, take}
use Rattle.std.specs.List.{flat_map}
use Rattle.cap_image.specs.Parts.{tagged_granules}
use Rattle.cap_image.proofs.granules.count_tagged.Given as goal

abbrev pub invariant-loop-i : goal.invariant-loop-i
invariant-loop-i l = record {
  count : l.count ≡ length (flat_map tagged_granules (take l.i l.image.objects));
  small : l.count ≤ l.i * 0x10000000;
}
