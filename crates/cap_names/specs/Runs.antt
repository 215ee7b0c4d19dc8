-- Keys that ascend by hash, and are put in order hash by hash.
use Rattle.std.specs.Prelude.{◌≡◌, ◌≢◌, ℕ, ◌+◌, ◌-◌, ◌/◌, ◌<◌, ◌≤◌, ◌^◌, false, List, length, slice_index_or}
use Rattle.std.specs.List.Sorted.{IsPermutation}
use Rattle.cap_names.specs.Named.{Named}
use Rattle.cap_names.specs.Keys.{key_lt}

-- the hash of the key at a place
abbrev pub hash_at : List ℕ → ℕ → ℕ
hash_at keys k = slice_index_or keys k 0 / 2 ^ 32

-- the keys from one place up to another have one hash, and the next key has another
pub record IsRun (keys : List ℕ) (at end : ℕ) : Type 0 where
  pub some : at < end
  pub inside : end ≤ length keys
  pub same : (k : ℕ) → at ≤ k → k < end → hash_at keys k ≡ hash_at keys at
  pub other : end < length keys → hash_at keys end ≢ hash_at keys at

-- of each two neighbours among the keys from one place up to another, the second is not before the first
abbrev pub AscendsIn : List Named → List ℕ → ℕ → ℕ → Type 0
AscendsIn names keys low high = (k : ℕ) → low ≤ k → k + 1 < high → key_lt names (slice_index_or keys (k + 1) 0) (slice_index_or keys k 0) ≡ false

-- the keys of a run are put in order
pub record Settles (names : List Named) (old new : List ℕ) (at end : ℕ) : Type 0 where
  pub moved : IsPermutation old new
  pub before : (k : ℕ) → k < at → slice_index_or new k 0 ≡ slice_index_or old k 0
  pub behind : (k : ℕ) → end ≤ k → slice_index_or new k 0 ≡ slice_index_or old k 0
  pub hashes : (k : ℕ) → hash_at new k ≡ hash_at old k
  pub sorted : AscendsIn names new at end

-- all keys ascend by hash; those before a place are in order, and have other hashes than those from there on
pub record IsSettled (names : List Named) (keys : List ℕ) (at : ℕ) : Type 0 where
  pub inside : at ≤ length keys
  pub ascend : (i j : ℕ) → i ≤ j → j < length keys → hash_at keys i ≤ hash_at keys j
  pub sorted : AscendsIn names keys 0 at
  pub parted : 0 < at → at < length keys → hash_at keys (at - 1) < hash_at keys at
