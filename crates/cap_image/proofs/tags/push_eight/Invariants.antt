use Rattle.std.proofs.Common.{◌≡◌, ◌*◌, length}
use Rattle.std.specs.Prelude.{All}
use Rattle.cap_image.specs.Parts.{tagged_below}
use Rattle.cap_image.specs.Report.{IsGranule}
use Rattle.cap_image.proofs.tags.push_eight.Given as goal

abbrev pub invariant-loop-n : goal.invariant-loop-n
invariant-loop-n l = record {
  value : l.granules.items ≡ tagged_below l.base l.tags l.n;
  inside : All (IsGranule l.base (128 * length l.tags)) l.granules.items;
}
