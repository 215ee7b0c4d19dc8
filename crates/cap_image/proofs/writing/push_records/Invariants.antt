use Rattle.std.proofs.Common.{◌≡◌, ◌++◌, length}
use Rattle.cap_image.specs.WordWalk.{founds_of}
use Rattle.cap_image.specs.MemoryParts.{founds_bytes, HaveSymbols}
use Rattle.cap_image.proofs.writing.push_records.Given as goal

abbrev pub invariant-loop-word : goal.invariant-loop-word
invariant-loop-word l = record {
  so_far : l.text.items ++ founds_bytes l.symbols l.words ≡ l.initial.text.items ++ founds_bytes l.symbols (founds_of l.memory.words);
  names : HaveSymbols l.symbols l.words;
}

abbrev pub decreases-loop-word : goal.decreases-loop-word
decreases-loop-word l = length l.words
