-- The keys of an index: the hash of a name, and below its 32 bits the index that has the name.
use Rattle.std.specs.Prelude.{◌≡◌, ℕ, ◌+◌, ◌*◌, ◌/◌, ◌%◌, ◌^◌, ◌<◌, ◌≤◌, ◌≢◌, ◌==◌, Bool, true, false, ◌&&◌, if◌then◌else◌, List, [], ◌∷◌, length, slice_index_or, bytes_eq, Option, IfSome, IsSomeAnd}
use Rattle.std.specs.declared.cmp.Ordering.{Ordering}
use Rattle.std.specs.Ordering.{nat_cmp, ordering_then, is_lt, on, then_cmp}
use Rattle.std.specs.Cmp.Lexicographic.{slice_cmp}
use Rattle.cap_names.specs.Hash.{hash_by, spread_of}
use Rattle.cap_names.specs.declared.hashing.NameHash.{NameHash}
use Rattle.cap_names.specs.Named.{Named, name_at, is_defined_at, is_repeated}

-- the number by which an index places a name that is hashed by a rule
abbrev pub place_of : NameHash → List ℕ → ℕ
place_of rule name = spread_of (hash_by rule name)

-- the key of a name at an index
abbrev pub key_for : NameHash → List ℕ → ℕ → ℕ
key_for rule name i = place_of rule name * 2 ^ 32 + i

abbrev pub key_at : NameHash → List Named → ℕ → ℕ
key_at rule names i = key_for rule (name_at names i) i

-- the keys of the defined names in order, from an index on
unfoldable pub keys_from : NameHash → ℕ → List Named → List ℕ
keys_from rule i [] = []
keys_from rule i (p ∷ ps) = if p.1 then key_for rule p.0 i ∷ keys_from rule (i + 1) ps else keys_from rule (i + 1) ps

-- a hash and a name, and their order
abbrev pub Rank : Type 0
Rank = ℕ × List ℕ

abbrev pub rank_cmp : Rank → Rank → Ordering
rank_cmp = then_cmp (on (λ r. r.0) nat_cmp) (on (λ r. r.1) (slice_cmp nat_cmp))

-- the hash in a key, and the name of its index
abbrev pub rank_of : List Named → ℕ → Rank
rank_of names key = (key / 2 ^ 32, name_at names (key % 2 ^ 32))

-- keys are ordered by hash, then by name, then by index
abbrev pub key_cmp : List Named → ℕ → ℕ → Ordering
key_cmp names a b = ordering_then (rank_cmp (rank_of names a) (rank_of names b)) (nat_cmp (a % 2 ^ 32) (b % 2 ^ 32))

abbrev pub key_lt : List Named → ℕ → ℕ → Bool
key_lt names a b = is_lt (key_cmp names a b)

-- the key of a defined index
pub record IsKey (names : List Named) (key : ℕ) : Type 0 where
  pub inside : key % 2 ^ 32 < length names
  pub defined : is_defined_at names (key % 2 ^ 32) ≡ true

-- the name of the key at a place
abbrev pub name_of : List Named → List ℕ → ℕ → List ℕ
name_of names keys k = name_at names (slice_index_or keys k 0 % 2 ^ 32)

-- the keys of all defined indices in order, each once. Keys of one name have one hash
pub record IsIndexOf (names : List Named) (keys : List ℕ) : Type 0 where
  pub sound : (k : ℕ) → k < length keys → IsKey names (slice_index_or keys k 0)
  pub complete : (i : ℕ) → is_defined_at names i ≡ true → (k : ℕ) × (k < length keys) × (slice_index_or keys k 0 % 2 ^ 32 ≡ i)
  pub agreed : (j k : ℕ) → j < length keys → k < length keys → name_of names keys j ≡ name_of names keys k → slice_index_or keys j 0 / 2 ^ 32 ≡ slice_index_or keys k 0 / 2 ^ 32
  pub ascending : (i j : ℕ) → i ≤ j → j < length keys → key_lt names (slice_index_or keys j 0) (slice_index_or keys i 0) ≡ false
  pub apart : (i j : ℕ) → i < j → j < length keys → slice_index_or keys i 0 % 2 ^ 32 ≢ slice_index_or keys j 0 % 2 ^ 32
  pub few : length names < 2 ^ 32

-- each key has the hash of its name by a rule
abbrev pub AreHashed : NameHash → List Named → List ℕ → Type 0
AreHashed rule names keys = (k : ℕ) → k < length keys → slice_index_or keys k 0 / 2 ^ 32 ≡ place_of rule (name_of names keys k)

pub record IsIndexBy (rule : NameHash) (names : List Named) (keys : List ℕ) : Type 0 where
  pub index : IsIndexOf names keys
  pub hashed : AreHashed rule names keys

-- the keys of a name have this hash
abbrev pub HasHash : List Named → List ℕ → ℕ → List ℕ → Type 0
HasHash names keys hash name = (k : ℕ) → k < length keys → name_of names keys k ≡ name → slice_index_or keys k 0 / 2 ^ 32 ≡ hash

-- the first rank is below the second
abbrev pub is_below : Rank → Rank → Bool
is_below a b = is_lt (rank_cmp a b)

abbrev pub rank_at : List Named → List ℕ → ℕ → Rank
rank_at names keys k = rank_of names (slice_index_or keys k 0)

-- the keys before one place are below a rank, and those from another on are not
pub record IsWindow (names : List Named) (keys : List ℕ) (target : Rank) (low high : ℕ) : Type 0 where
  pub order : low ≤ high
  pub inside : high ≤ length keys
  pub before : (k : ℕ) → k < low → is_below (rank_at names keys k) target ≡ true
  pub behind : (k : ℕ) → high ≤ k → k < length keys → is_below (rank_at names keys k) target ≡ false

-- the key has this hash, and its index this name
abbrev pub has_rank : List Named → ℕ → ℕ → List ℕ → Bool
has_rank names key hash name = key / 2 ^ 32 == hash && bytes_eq (name_at names (key % 2 ^ 32)) name

-- what the neighbours among the first keys say of the least index that is repeated
pub record Seen (names : List Named) (keys : List ℕ) (count : ℕ) (least : Option ℕ) : Type 0 where
  pub real : IfSome least (λ i. is_repeated names i ≡ true)
  pub covers : (k : ℕ) → k + 1 < count → rank_at names keys k ≡ rank_at names keys (k + 1) → IsSomeAnd least (λ i. i ≤ slice_index_or keys (k + 1) 0 % 2 ^ 32)
