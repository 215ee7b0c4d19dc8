use Rattle.std.proofs.Common.{◌≡◌, take}
use Rattle.std.specs.List.{flat_map}
use Rattle.cap_image.specs.Parts.{tagged_granules}
use Rattle.cap_reach.specs.Collecting.{raw_words_in}
use Rattle.cap_reach.proofs.words.tagged_words.Given as goal

abbrev pub invariant-loop-i : goal.invariant-loop-i
invariant-loop-i l = record {
  granules : l.all.granules.items ≡ flat_map tagged_granules (take l.i l.image.objects);
  words : l.all.words.items ≡ flat_map raw_words_in (take l.i l.image.objects);
}
