-- The lengths of the runs from each word on: what an adopted table keeps.
use Rattle.std.specs.Prelude.{◌≡◌, ℕ, ◌+◌, ◌%◌, ◌≤◌, ◌==◌, if◌then◌else◌, List, drop, slice_index}
use Rattle.cap_names.specs.Named.{Named, AreDistinct}
use Rattle.cap_names.specs.declared.hashing.NameHash.{NameHash}
use Rattle.cap_names.specs.declared.hashing.NameHash.TheVariants.{Gnu}
use Rattle.cap_gnu.specs.Adopted.{IsTableOf, index_words, run_length}

-- the length of the run that begins with a word, by the length of the one from the next word on
abbrev pub length_with : ℕ → ℕ → ℕ
length_with word next = if word % 2 == 1 then 1 else (if next == 0 then 0 else next + 1)

-- from a word on, how long the run from each word on is
abbrev pub AreLengthsFrom : ℕ → List ℕ → List ℕ → Type 0
AreLengthsFrom first words lengths = (k : ℕ) → first ≤ k → slice_index lengths k ≡ run_length (drop k words)

-- how long the run from each word on is
abbrev pub AreLengths : List ℕ → List ℕ → Type 0
AreLengths words lengths = (k : ℕ) → slice_index lengths k ≡ run_length (drop k words)

-- a table of distinct names, the lengths of its runs, and the rule of its index of names
pub record IsGnuChains (words runs : List ℕ) (by : NameHash) (names : List Named) : Type 0 where
  pub table : IsTableOf words names
  pub lengths : AreLengths (index_words words) runs
  pub rule : by ≡ Gnu
  pub distinct : AreDistinct names
