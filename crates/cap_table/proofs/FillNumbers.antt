-- The index of the symbol of a row.
use Rattle.std.proofs.Common.{◌≡◌, ℕ, ◌+◌, Bool, true, false, cond, List, [], ◌∷◌, Some, refl, sym, ap, ◌∙◌}
use Rattle.std.specs.Prelude.{◌==◌}
use Rattle.std.specs.List.{position_from}
use Rattle.std.specs.Option.{option_map_or}
use Rattle.std.proofs.lemmas.Iterator.Adapters.{position_from-zero}
use Rattle.cap_table.specs.Lists.{symbol_index}
use Rattle.cap_table.specs.Numbers.{number_from}

pub number_from-position : (k : ℕ) (rows : List ℕ) (row : ℕ) → number_from k rows row ≡ option_map_or (λ i. i + 1) (position_from (λ r. r == row) k rows) 0
number_from-position k [] row = refl
number_from-position k (r ∷ rows) row = go (r == row) (number_from-position (k + 1) rows row)
  where
    go : (b : Bool) → number_from (k + 1) rows row ≡ option_map_or (λ i. i + 1) (position_from (λ s. s == row) (k + 1) rows) 0 → cond b (k + 1) (number_from (k + 1) rows row) ≡ option_map_or (λ i. i + 1) (cond b (Some k) (position_from (λ s. s == row) (k + 1) rows)) 0
    go true later = refl
    go false later = later

pub number_from-index : (rows : List ℕ) (row : ℕ) → number_from 0 rows row ≡ symbol_index rows (Some row)
number_from-index rows row = number_from-position 0 rows row ∙ ap (λ o. option_map_or (λ i. i + 1) o 0) (sym (position_from-zero (λ r. r == row) rows))
