-- What is reached, as a function.
use Rattle.std.specs.Prelude.{ℕ, zero, suc, Bool, ◌&&◌, ◌||◌, ◌==◌, List, [], ◌∷◌, length, filter, Contains}
use Rattle.std.specs.List.{list_any}
use Rattle.std.specs.List.Sorted.{IsStrictlyIncreasing}
use Rattle.cap_reach.specs.Reach.{PlacedWord, IsReach, granules_of, loads}

-- a granule is one of these
abbrev pub is_one : List ℕ → ℕ → Bool
is_one slots granule = list_any (λ slot. slot == granule) slots

-- the word of one of these granules loads the granule
abbrev pub is_loaded : List PlacedWord → List ℕ → ℕ → Bool
is_loaded words slots granule = list_any (λ from. is_one slots from.granule && loads from.word granule) words

-- the tagged granules among these, and those that one of their words loads
abbrev pub with_loaded : List PlacedWord → List ℕ → List ℕ
with_loaded words slots = filter (λ granule. is_one slots granule || is_loaded words slots granule) (granules_of words)

-- so many steps from these
abbrev pub after_steps : ℕ → List PlacedWord → List ℕ → List ℕ
after_steps zero words slots = slots
after_steps (suc n) words slots = after_steps n words (with_loaded words slots)

-- no granule is farther than there are words
unfoldable pub reach_of : List PlacedWord → ℕ → List ℕ
reach_of words start = after_steps (length words) words (start ∷ [])

-- of words in ascending order, and from one of them, it is what is reached
abbrev pub ReachIsComputed : Type 0
ReachIsComputed =
    (words : List PlacedWord) (start : ℕ)
    → IsStrictlyIncreasing (granules_of words)
    → Contains (granules_of words) start
    → IsReach words start (reach_of words start)
