-- Reached objects as a queue: each in turn adds what it depends on at the end.
use Rattle.std.specs.Prelude.{◌≡◌, ℕ, zero, suc, ◌+◌, ◌<◌, nat_lt, Bool, false, List, [], ◌++◌, length, slice_index, slice_index_or, if◌then◌else◌}
use Rattle.cap_chain.specs.Adopted.{has}
use Rattle.cap_scope.specs.Tree.{fresh}

abbrev pub grown : List ℕ → List ℕ → List ℕ
grown seen ns = seen ++ fresh seen ns

-- this many turns, from place k on
abbrev pub queue : List (List ℕ) → ℕ → List ℕ → ℕ → List ℕ
queue deps zero order k = order
queue deps (suc m) order k =
    if nat_lt k (length order) then queue deps m (grown order (slice_index_or deps (slice_index order k) [])) (k + 1) else order

-- the flags tell which numbers are in the list
pub record IsSeen (seen : List Bool) (order : List ℕ) : Type 0 where
  pub flags : (j : ℕ) → j < length seen → slice_index_or seen j false ≡ has j order
