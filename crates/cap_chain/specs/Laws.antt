-- What is built can be adopted.
use Rattle.std.specs.Prelude.{◌≡◌, ◌≤◌, true, false, List, [], length, map, slice_index_or}
use Rattle.cap_chain.specs.Words.{built_words}
use Rattle.cap_chain.specs.Adopted.{IsTableOf, is_sound}
use Rattle.cap_names.specs.Named.{Named}

-- where the first name isn't defined, the words that are built for names are a sound table of them
pub record BuiltAreSound : Type 0 where
  pub table : (names : List Named) → 1 ≤ length names → (slice_index_or names 0 ([], false)).1 ≡ false → IsTableOf (built_words (map (λ p. p.0) names)) names
  pub sound : (names : List Named) → 1 ≤ length names → (slice_index_or names 0 ([], false)).1 ≡ false → is_sound (built_words (map (λ p. p.0) names)) names ≡ true
