-- What is found in a list of names, each with whether it counts as defined.
use Rattle.std.specs.Prelude.{◌≡◌, ℕ, ◌<◌, Bool, true, false, ◌&&◌, List, [], take, slice_index_or, position, Option, Some, None, bytes_eq}
use Rattle.std.specs.List.{list_any, IsDistinct}
use Rattle.cap_names.specs.declared.hashing.NameHash.{NameHash}

-- a name and whether it is defined
abbrev pub Named : Type 0
Named = List ℕ × Bool

-- a list of names, and the rule by which they are hashed
pub record HashedNames : Type 0 where
  pub rule : NameHash
  pub names : List Named

abbrev pub hashed_names : NameHash → List Named → HashedNames
hashed_names rule names = record { rule = rule; names = names }

-- the name of an index, and whether it is defined
abbrev pub name_at : List Named → ℕ → List ℕ
name_at names i = (slice_index_or names i ([], false)).0

abbrev pub is_defined_at : List Named → ℕ → Bool
is_defined_at names i = (slice_index_or names i ([], false)).1

-- the index is defined and has this name
abbrev pub matches : List Named → List ℕ → ℕ → Bool
matches names name i = is_defined_at names i && bytes_eq (name_at names i) name

-- the least index that is defined and has this name
abbrev pub first_defined : List Named → List ℕ → Option ℕ
first_defined names name = position (λ p. p.1 && bytes_eq p.0 name) names

-- no two defined names are equal
abbrev pub AreDistinct : List Named → Type 0
AreDistinct names = IsDistinct (λ a b. a.1 && b.1 && bytes_eq a.0 b.0) names

-- no other index than the one that is found is defined and has this name
abbrev pub IsOnly : List Named → List ℕ → Option ℕ → Type 0
IsOnly names name found = (k : ℕ) → matches names name k ≡ true → found ≡ Some k

-- the index is defined, and an index before it is defined and has the same name
abbrev pub is_repeated : List Named → ℕ → Bool
is_repeated names i = is_defined_at names i && list_any (λ p. p.1 && bytes_eq p.0 (name_at names i)) (take i names)

-- the least number that passes a test; none where no number does
abbrev pub IsLeast : (ℕ → Bool) → Option ℕ → Type 0
IsLeast q None = (k : ℕ) → q k ≡ false
IsLeast q (Some i) = (q i ≡ true) × ((k : ℕ) → k < i → q k ≡ false)
