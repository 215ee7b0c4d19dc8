-- What each symbol means, kept once for each row of the table and for each local symbol.
use Rattle.std.specs.Prelude.{◌≡◌, ℕ, ◌<◌, List, [], length, slice_get, slice_index_or, Some}
use Rattle.cap_elf.specs.RelObject.{file_of}
use Rattle.cap_table.specs.declared.target.Target.{Target}
use Rattle.cap_table.specs.Targets.{Named, row_target, target_of}

-- what stood at a place still stands there
abbrev pub Keeps : List Target → List Target → Type 0
Keeps old new = (i : ℕ) (t : Target) → slice_get old i ≡ Some t → slice_get new i ≡ Some t

-- by each row, what it means
abbrev pub HaveRows : Named → List Target → Type 0
HaveRows named targets = (row : ℕ) → row < length named.table → slice_get targets row ≡ Some (row_target named row)

-- at the places of the symbols of an input, what each of them means
pub record StandFor (named : Named) (file : ℕ) (targets : List Target) (places : List ℕ) : Type 0 where
  pub count : length places ≡ length (file_of named.rels file).symbols
  pub each : (symbol : ℕ) → symbol < length (file_of named.rels file).symbols → slice_get targets (slice_index_or places symbol 0) ≡ Some (target_of named file symbol)

-- the same of all inputs
pub record StandForAll (named : Named) (targets : List Target) (places : List (List ℕ)) : Type 0 where
  pub count : length places ≡ length named.rels
  pub each : (file : ℕ) → file < length named.rels → StandFor named file targets (slice_index_or places file [])
