-- The index of the linked file's symbol of each row, in a list by rows.
use Rattle.std.specs.Prelude.{◌≡◌, ℕ, ◌+◌, ◌==◌, if◌then◌else◌, List, [], ◌∷◌, Some, slice_index_or}
use Rattle.cap_table.specs.Lists.{symbol_index}

-- the index of the first of these rows that is this one, where the first of them has number k + 1; 0 where none is
abbrev pub number_from : ℕ → List ℕ → ℕ → ℕ
number_from k [] row = 0
number_from k (r ∷ rows) row = if r == row then k + 1 else number_from (k + 1) rows row

abbrev pub AreNumbersFrom : ℕ → List ℕ → List ℕ → Type 0
AreNumbersFrom k rows by_row = (row : ℕ) → slice_index_or by_row row 0 ≡ number_from k rows row

abbrev pub AreNumbers : List ℕ → List ℕ → Type 0
AreNumbers rows by_row = (row : ℕ) → slice_index_or by_row row 0 ≡ symbol_index rows (Some row)
