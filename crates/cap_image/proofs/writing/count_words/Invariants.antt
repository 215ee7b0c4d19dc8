use Rattle.std.proofs.Common.{◌≡◌, ◌+◌, length}
use Rattle.cap_image.proofs.writing.count_words.Given as goal

abbrev pub invariant-loop-count : goal.invariant-loop-count
invariant-loop-count l = l.count + length l.words ≡ length l.memory.words

abbrev pub decreases-loop-count : goal.decreases-loop-count
decreases-loop-count l = length l.words
