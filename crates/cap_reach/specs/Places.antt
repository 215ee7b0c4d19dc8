-- What is reached, by places in the list of the tagged granules of an image.
use Rattle.std.specs.Prelude.{◌≡◌, ◌↔◌, ℕ, ◌+◌, ◌<◌, ◌≤◌, true, List, length, Contains, slice_index, slice_index_or}
use Rattle.std.specs.List.Sorted.{IsStrictlyIncreasing}
use Rattle.cap_conc.specs.declared.word.Word.{Word}
use Rattle.cap_conc.specs.declared.word.Fields.{Fields}
use Rattle.cap_conc.specs.Computed.{fields_of}
use Rattle.cap_reach.specs.Reach.{may_load}
use Rattle.cap_reach.specs.Work.{IsWork}

abbrev pub no_word : Word
no_word = record { address = 0; meta = 0 }

-- a word with these fields loads the granule
abbrev pub Gives : Fields → ℕ → Type 0
Gives f granule = (may_load f ≡ true) × (f.base ≤ granule) × (granule + 16 ≤ f.top)

-- the word at a place loads the granule at another
abbrev pub LoadsAt : List ℕ → List Word → ℕ → ℕ → Type 0
LoadsAt granules words i k = (k < length granules) × Gives (fields_of (slice_index_or words i no_word)) (slice_index granules k)

-- the start is reached, and what a reached one loads
pub data ReachedAt (granules : List ℕ) (words : List Word) (start : ℕ) : ℕ → Type 0 where
  first_place : ReachedAt granules words start start
  by_step : (i k : ℕ) → ReachedAt granules words start i → LoadsAt granules words i k → ReachedAt granules words start k

-- all places that are reached, in ascending order
pub record AreReachedAt (granules : List ℕ) (words : List Word) (start : ℕ) (places : List ℕ) : Type 0 where
  pub ascending : IsStrictlyIncreasing places
  pub each : (k : ℕ) → Contains places k ↔ ReachedAt granules words start k

-- the start is found, all found are reached, and those at places below a bound load none but found ones
pub record IsSearch (granules : List ℕ) (words : List Word) (start : ℕ) (next found : List ℕ) (bound : ℕ) : Type 0 where
  pub work : IsWork next found
  pub size : length next ≡ length granules
  pub has_start : Contains found start
  pub inside : (q : ℕ) → q < length found → slice_index found q < length granules
  pub reached : (q : ℕ) → q < length found → ReachedAt granules words start (slice_index found q)
  pub closed : (q : ℕ) → q < bound → q < length found → (k : ℕ) → LoadsAt granules words (slice_index found q) k → Contains found k
