use Rattle.std.proofs.Common.{◌≡◌, ◌-◌, length}
use Rattle.cap_image.specs.Records.{repeated}
use Rattle.cap_image.specs.Words.{add_word, no_words, AreListed, AreMarks}
use Rattle.cap_image.proofs.words.list_some.Given as goal

abbrev pub invariant-loop-i : goal.invariant-loop-i
invariant-loop-i l = record {
  so_far : repeated (add_word l.bytes l.count l.of l.tags) (l.len - l.i) l.words ≡ repeated (add_word l.bytes l.count l.of l.tags) l.len (no_words l.fn.at);
  sound : AreListed l.bytes l.count l.of l.tags l.words;
  marks : AreMarks l.of l.words.items l.marks.items;
  count : length l.words.items ≡ l.i;
}
