-- Which words are a sound hash table of these names (System V gABI, DT_HASH), and what is found by it.
use Rattle.std.specs.Prelude.{◌≡◌, ℕ, zero, suc, ◌+◌, ◌%◌, ◌≤◌, ◌==◌, nat_lt, Bool, true, false, not, ◌&&◌, ◌||◌, if◌then◌else◌, List, [], ◌∷◌, length, drop, slice_range, slice_index, flat_map, ◌<◌, ◌^◌, Result, Ok, Err, position, Option}
use Rattle.std.specs.List.{list_all, list_any, enumerate_from}
use Rattle.std.specs.Option.{option_map_or}
use Rattle.cap_names.specs.Hash.{system_v_hash_of}
use Rattle.cap_names.specs.Named.{Named, AreDistinct, first_defined}
use Rattle.cap_chain.specs.declared.adopting.AdoptRefusal.{AdoptRefusal}
use Rattle.cap_chain.specs.declared.adopting.AdoptRefusal.TheVariants.{Fault, NoMemory}

-- the words of a table, and the names of its indices, each with whether it counts as defined
pub record ChainTable : Type 0 where
  pub words : List ℕ
  pub names : List Named

-- the words of the buckets, and those of the names
abbrev pub bucket_words_of : List ℕ → List ℕ
bucket_words_of words = slice_range words 2 (2 + slice_index words 0)

abbrev pub name_words_of : List ℕ → List ℕ
name_words_of words = drop (2 + slice_index words 0) words

-- the indices on the chain from one on, up to 0, but at most `most` of them
abbrev pub chain_from : List ℕ → ℕ → ℕ → List ℕ
chain_from links zero i = []
chain_from links (suc most) i = if i == 0 then [] else i ∷ chain_from links most (slice_index links i)

-- the chain that begins at a bucket's word. A chain without repeats is no longer than there are names
abbrev pub chain_at : List ℕ → ℕ → List ℕ
chain_at words i = chain_from (name_words_of words) (length (name_words_of words)) i

-- the chain of the bucket into which a name falls
abbrev pub chain_of : List ℕ → List ℕ → List ℕ
chain_of words name = chain_at words (slice_index (bucket_words_of words) (system_v_hash_of name % slice_index words 0))

-- the indices on the chains of all buckets, one chain after another
abbrev pub reached : List ℕ → List ℕ
reached words = flat_map (chain_at words) (bucket_words_of words)

-- the number is among these
abbrev pub has : ℕ → List ℕ → Bool
has x xs = list_any (λ y. y == x) xs

-- none of the numbers stands twice
abbrev pub is_distinct : List ℕ → Bool
is_distinct [] = true
is_distinct (x ∷ xs) = not (has x xs) && is_distinct xs

-- a name that is defined has its index on the chain of its bucket
abbrev pub is_held : List ℕ → ℕ × Named → Bool
is_held words p = not p.1.1 || has p.0 (chain_of words p.1.0)

-- each word after the first two is an index, no index but 0 is reached twice, and each defined name is held
abbrev pub is_sound : List ℕ → List Named → Bool
is_sound words names =
    list_all (λ w. nat_lt w (length names)) (drop 2 words) && is_distinct (reached words) && list_all (is_held words) (enumerate_from 0 names)

-- there is a bucket, and there are as many words as the first two tell, and as many names
pub record IsTableOf (words : List ℕ) (names : List Named) : Type 0 where
  pub buckets : 1 ≤ slice_index words 0
  pub chains : slice_index words 1 ≡ length names
  pub long : length words ≡ 2 + slice_index words 0 + length names

-- how many indices of a chain are passed up to the one that is found, that one too; all of them where none is found
abbrev pub passed : List ℕ → Option ℕ → ℕ
passed chain found = option_map_or (λ i. option_map_or (λ k. k + 1) (position (λ j. j == i) chain) (length chain)) found (length chain)

-- how many indices the look-up of a name passes
abbrev pub walk_of : ChainTable → List ℕ → ℕ
walk_of table name = passed (chain_of table.words name) (first_defined table.names name)

abbrev pub table_of : List ℕ → List Named → ChainTable
table_of words names = record { words = words; names = names }

-- a sound table of distinct names
pub record IsChains (words : List ℕ) (names : List Named) : Type 0 where
  pub table : IsTableOf words names
  pub few : length names < 2 ^ 32
  pub sound : is_sound words names ≡ true
  pub distinct : AreDistinct names

-- words are adopted with their names exactly where they are sound; memory may run out instead
abbrev pub Adopts : List ℕ → List Named → Result ChainTable AdoptRefusal → Type 0
Adopts words names (Ok chains) = (chains ≡ table_of words names) × (is_sound words names ≡ true)
Adopts words names (Err Fault) = is_sound words names ≡ false
Adopts words names (Err NoMemory) = Unit {0}
