use Rattle.std.proofs.Common.{◌≡◌, ◌*◌, length}
use Rattle.std.specs.Prelude.{All}
use Rattle.cap_image.specs.Parts.{tagged_below}
use Rattle.cap_image.specs.Report.{IsGranule}
use Rattle.cap_image.proofs.tags.tagged.Given as goal

abbrev pub invariant-loop-j : goal.invariant-loop-j
invariant-loop-j l = record {
  value : l.granules.items ≡ tagged_below l.base l.tags (8 * l.j);
  inside : All (IsGranule l.base (128 * length l.tags)) l.granules.items;
}
