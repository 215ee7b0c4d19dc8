-- Laws of what is reached.
use Rattle.std.specs.Prelude.{◌≡◌, ℕ, Bool, true, List, All, Contains}
use Rattle.cap_reach.specs.Reach.{PlacedWord, IsReach, granules_of, loads}

-- there is one list alone of all that is reached, in ascending order
abbrev pub ReachIsOne : Type 0
ReachIsOne =
    (words : List PlacedWord) (start : ℕ) (xs ys : List ℕ)
    → IsReach words start xs
    → IsReach words start ys
    → xs ≡ ys

-- a set has, with the granule of each word, those tagged ones that the word loads
abbrev pub IsClosed : List PlacedWord → (ℕ → Bool) → Type 0
IsClosed words set =
    (from : PlacedWord) (to : ℕ)
    → set from.granule ≡ true
    → Contains words from
    → Contains (granules_of words) to
    → loads from.word to ≡ true
    → set to ≡ true

-- it has the start, it is closed, and it lies within each closed set that has the start
pub record IsLeast (words : List PlacedWord) (start : ℕ) (slots : List ℕ) : Type 0 where
  pub has_start : Contains slots start
  pub closed : (from : PlacedWord) (to : ℕ) → Contains slots from.granule → Contains words from → Contains (granules_of words) to → loads from.word to ≡ true → Contains slots to
  pub least : (set : ℕ → Bool) → set start ≡ true → IsClosed words set → All (λ slot. set slot ≡ true) slots

abbrev pub ReachIsLeast : Type 0
ReachIsLeast = (words : List PlacedWord) (start : ℕ) (slots : List ℕ) → IsReach words start slots → IsLeast words start slots
