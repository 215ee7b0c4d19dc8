use Rattle.std.proofs.Common.{◌≡◌, ◌++◌, take, map}
use Rattle.std.specs.Prelude.{slice_index_or}
use Rattle.cap_image.specs.Parts.{no_object}
use Rattle.cap_reach.specs.Collecting.{word_in_object}
use Rattle.cap_reach.proofs.words.TaggedWords.push_words.Given as goal

abbrev pub invariant-loop-granule : goal.invariant-loop-granule
invariant-loop-granule l = record {
  words : l.self.words.items ≡ l.initial.self.words.items ++ map (word_in_object (slice_index_or l.image.objects l.i no_object)) (take l.granule-index l.granules);
  granules : l.self.granules.items ≡ l.initial.self.granules.items;
}
