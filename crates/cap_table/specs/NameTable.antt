-- The names of the linked file as they are appended.
use Rattle.std.specs.Prelude.{ℕ, List, [], ◌∷◌, ◌++◌, fold, length}
use Rattle.cap_syms.specs.Resolved.{Resolved}
use Rattle.cap_table.specs.Planned.{Planned, all_names, symbol_names}

-- the bytes so far, and where each name begins
pub record NamesValue : Type 0 where
  pub bytes : List ℕ
  pub offsets : List ℕ

-- before the first name: the null symbol's name is the empty one
abbrev pub null_name : NamesValue
null_name = record { bytes = 0 ∷ []; offsets = 0 ∷ [] }

-- behind bytes, with no name yet
abbrev pub behind : List ℕ → NamesValue
behind bytes = record { bytes = bytes; offsets = [] }

-- with one more name, and a zero byte behind it
unfoldable pub with_name : NamesValue → List ℕ → NamesValue
with_name names name = record {
  bytes = names.bytes ++ name ++ 0 ∷ [];
  offsets = names.offsets ++ length names.bytes ∷ [];
}

abbrev pub with_names : NamesValue → List (List ℕ) → NamesValue
with_names so_far names = fold with_name so_far names

abbrev pub names_of : List Resolved → Planned → List (List ℕ)
names_of table plan = all_names (symbol_names table plan.symbols) plan.soname plan.needed
