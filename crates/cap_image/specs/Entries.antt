-- Which word record of an object is that of a granule.
use Rattle.std.specs.Prelude.{◌≡◌, ℕ, ◌+◌, ◌*◌, ◌/◌, ◌<◌, ◌==◌, List, length, drop, find, Option, None, option_map, IfSome, slice_index_or}
use Rattle.cap_image.specs.Parts.{WordRecord, ImageObject, no_word}

-- the word record of this number
abbrev pub numbered : ImageObject → Option ℕ → Option WordRecord
numbered o number = option_map (λ k. slice_index_or o.words k no_word) number

abbrev pub IsNumber : ImageObject → Option ℕ → Type 0
IsNumber o number = IfSome number (λ k. k < length o.words)

-- for each granule of an object the number of its word record, among those from the first on
pub record AreEntries (o : ImageObject) (first : ℕ) (entries : List (Option ℕ)) : Type 0 where
  pub count : length entries ≡ length o.bytes / 16
  pub inside : (n : ℕ) → n < length entries → IsNumber o (slice_index_or entries n None)
  pub each : (n : ℕ) → n < length entries → numbered o (slice_index_or entries n None) ≡ find (λ w. w.granule == o.base + 16 * n) (drop first o.words)
