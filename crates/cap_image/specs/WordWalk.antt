-- The words of a memory one after the other, and its tags in the order of addresses.
use Rattle.std.specs.Prelude.{◌≡◌, ℕ, ◌-◌, ◌<◌, ◌≤◌, true, false, ◌==◌, List, [], ◌∷◌, map, filter, flat_map, Option, Some, None, MatchOption, if◌then◌else◌}
use Rattle.std.specs.List.{range_with_len}
use Rattle.cap_mem.specs.declared.memory.Note.{Note}
use Rattle.cap_mem.specs.Tagged.{TaggedMemory, TaggedWord, is_of, is_tagged, IsFirstTagged, NoneTagged}
use Rattle.cap_image.specs.declared.word_walk.FoundWord.{FoundWord}

-- the owner and the note of a word
abbrev pub note_of : TaggedWord → Note
note_of w = record { owner = w.cap.owner; symbol = w.note }

-- a word as a walk finds it
abbrev pub found_of : TaggedWord → FoundWord
found_of w = record { granule = w.granule; note = note_of w }

abbrev pub founds_of : List TaggedWord → List FoundWord
founds_of words = map found_of words

-- the lists of the owners from one on, below 256
unfoldable pub lists_from : List TaggedWord → ℕ → List TaggedWord
lists_from words owner = flat_map (λ o. filter (is_of o) words) (range_with_len owner (256 - owner))

-- the words from that of a granule on
abbrev pub words_at : ℕ → List TaggedWord → List TaggedWord
words_at granule [] = []
words_at granule (w ∷ words) = if w.granule == granule then w ∷ words else words_at granule words

abbrev pub words_from : Option ℕ → List TaggedWord → List TaggedWord
words_from None words = []
words_from (Some granule) words = words_at granule words

-- no granule that is tagged stands from an address on and before this one, which is tagged
pub record IsNotPast (memory : TaggedMemory) (at granule : ℕ) : Type 0 where
  pub tagged : is_tagged memory granule ≡ true
  pub none : (a : ℕ) → at ≤ a → a < granule → is_tagged memory a ≡ false

abbrev pub IsAhead : TaggedMemory → ℕ → Option ℕ → Type 0
IsAhead memory at None = (a : ℕ) → at ≤ a → is_tagged memory a ≡ false
IsAhead memory at (Some granule) = IsNotPast memory at granule

-- the first tagged granule from an address on, or none where there is none
abbrev pub IsFirst : TaggedMemory → ℕ → Option ℕ → Type 0
IsFirst memory at found = MatchOption found (NoneTagged memory at) (IsFirstTagged memory at)
