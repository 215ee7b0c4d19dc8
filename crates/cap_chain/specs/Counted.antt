-- What an adopted table keeps beside its words: the place of each index on its chain, and how long each bucket's chain is.
use Rattle.std.specs.Prelude.{◌≡◌, ℕ, ◌+◌, ◌<◌, true, false, List, [], ◌∷◌, length, set, slice_index, Some, IfSome, Result, Ok, Err}
use Rattle.cap_names.specs.Named.{Named, first_defined}
use Rattle.cap_names.specs.declared.hashing.NameHash.{NameHash}
use Rattle.cap_names.specs.declared.hashing.NameHash.TheVariants.{SystemV}
use Rattle.cap_chain.specs.declared.adopting.AdoptRefusal.{AdoptRefusal}
use Rattle.cap_chain.specs.declared.adopting.AdoptRefusal.TheVariants.{Fault, NoMemory}
use Rattle.cap_chain.specs.Adopted.{IsChains, bucket_words_of, chain_at, chain_of, has, passed, is_sound}

-- the chain of the bucket of this number
abbrev pub chain_in : List ℕ → ℕ → List ℕ
chain_in words bucket = chain_at words (slice_index (bucket_words_of words) bucket)

-- the places of the indices of a chain are entered, from `first` on
abbrev pub entered : ℕ → List ℕ → List ℕ → List ℕ
entered first places [] = places
entered first places (i ∷ is) = entered (first + 1) (set places i first) is

-- those of the chains of all buckets, each from 1 on
abbrev pub entered_all : (ℕ → List ℕ) → List ℕ → List ℕ → List ℕ
entered_all chain places [] = places
entered_all chain places (w ∷ ws) = entered_all chain (entered 1 places (chain w)) ws

-- the place of each index on its chain, and the length of each bucket's chain
pub record CountLists : Type 0 where
  pub places : List ℕ
  pub lengths : List ℕ

abbrev pub lists_of : List ℕ → List ℕ → CountLists
lists_of places lengths = record { places = places; lengths = lengths }

-- of each bucket the length of its chain, and of each index on it how many are passed up to that one
pub record AreCounted (words : List ℕ) (counts : CountLists) : Type 0 where
  pub lengths : (b : ℕ) → b < slice_index words 0 → slice_index counts.lengths b ≡ length (chain_in words b)
  pub places : (b i : ℕ) → b < slice_index words 0 → has i (chain_in words b) ≡ true → slice_index counts.places i ≡ passed (chain_in words b) (Some i)

-- the index that a name is found at stands on the chain of the name's bucket
abbrev pub AreHeld : List ℕ → List Named → Type 0
AreHeld words names = (name : List ℕ) → IfSome (first_defined names name) (λ i. has i (chain_of words name) ≡ true)

-- a sound table, and its counts
pub record IsCounted (words : List ℕ) (names : List Named) (lists : CountLists) : Type 0 where
  pub sound : is_sound words names ≡ true
  pub held : AreHeld words names
  pub counts : AreCounted words lists

-- the chains of words are counted exactly where the words are a sound table; memory may run out instead
abbrev pub CountsChains : List ℕ → List Named → Result CountLists AdoptRefusal → Type 0
CountsChains words names (Ok counts) = IsCounted words names counts
CountsChains words names (Err Fault) = is_sound words names ≡ false
CountsChains words names (Err NoMemory) = Unit {0}

-- a sound table of distinct names, its counts, and the rule of its index of names
pub record IsCountedTable (words : List ℕ) (lists : CountLists) (by : NameHash) (names : List Named) : Type 0 where
  pub chains : IsChains words names
  pub counted : IsCounted words names lists
  pub rule : by ≡ SystemV
