-- What a walk over the words of a memory holds.
use Rattle.std.specs.Prelude.{List, map, IfSome}
use Rattle.cap_mem.specs.IsMemory.{IsMemory}
use Rattle.cap_mem.specs.Tagged.{IsTaggedGranule}
use Rattle.cap_image.specs.declared.word_walk.FoundWord.{FoundWord}
use Rattle.cap_image.specs.declared.word_walk.WordWalk.TheInside.{Inside}
use Rattle.cap_image.specs.WordWalk.{found_of, words_from}

-- the words that are left
abbrev pub words_left : Inside → List FoundWord
words_left w = map found_of (words_from w.next w.memory.now.words)

-- the next granule is tagged
pub record IsWalk (w : Inside) : Type 0 where
  pub sound : IsMemory w.memory.now
  pub next : IfSome w.next (λ g. IsTaggedGranule w.memory.now g)
