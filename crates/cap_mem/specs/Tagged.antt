-- Tagged memory, as CHERI has it: bytes, and a tag for each granule of 16 bytes.
use Rattle.std.specs.Prelude.{◌≡◌, ℕ, ◌+◌, ◌-◌, ◌%◌, ◌<◌, ◌≤◌, Bool, true, false, not, ◌==◌, nat_lt, nat_le, min, List, [], ◌∷◌, ◌++◌, length, map, filter, find, take, drop, flat_map, replicate, Option, Some, None, is_some, if◌then◌else◌}
use Rattle.std.specs.List.{reduce, replace_range}
use Rattle.cap_base.specs.Field.{number_at, number_bytes}
use Rattle.cap_base.specs.Lists.{share_byte, numbers_between}
use Rattle.cap_conc.specs.declared.word.Word.{Word}
use Rattle.cap_own.specs.Cap.{Cap, word_of_cap}

-- a tagged granule, its capability, and the note that came with it
pub record TaggedWord : Type 0 where
  pub granule : ℕ
  pub cap : Cap
  pub note : ℕ

-- the bytes from a base on, and the tagged words: those of each owner in the order in which they were stored, and the
-- owners in ascending order
pub record TaggedMemory : Type 0 where
  pub base : ℕ
  pub bytes : List ℕ
  pub words : List TaggedWord

-- the word's capability is one of the owner's
abbrev pub is_of : ℕ → TaggedWord → Bool
is_of owner w = w.cap.owner == owner

-- the list of an owner
abbrev pub list_of : TaggedMemory → ℕ → List TaggedWord
list_of memory owner = filter (is_of owner) memory.words

-- words in the order in which memory has them: the owners ascend, and those of one owner stand as they came
abbrev pub by_owner : List TaggedWord → List TaggedWord
by_owner words = flat_map (λ owner. filter (is_of owner) words) (numbers_between 0 256)

-- the word stands at the granule
abbrev pub stands_at : ℕ → TaggedWord → Bool
stands_at granule w = w.granule == granule

-- the tagged word at a granule, where it is tagged
abbrev pub tagged_word : TaggedMemory → ℕ → Option TaggedWord
tagged_word memory granule = find (stands_at granule) memory.words

-- whether a word stands there
abbrev pub is_tagged : TaggedMemory → ℕ → Bool
is_tagged memory granule = is_some (tagged_word memory granule)

-- the tagged granule that comes first, of those that are not below an address
abbrev pub first_tagged : TaggedMemory → ℕ → Option ℕ
first_tagged memory from = reduce min (filter (λ g. nat_le from g) (map (λ w. w.granule) memory.words))

-- the same as a relation: it is tagged, not below the address, and no tagged granule lies between
pub record IsFirstTagged (memory : TaggedMemory) (from granule : ℕ) : Type 0 where
  pub tagged : is_tagged memory granule ≡ true
  pub order : from ≤ granule
  pub least : (a : ℕ) → from ≤ a → a < granule → is_tagged memory a ≡ false

-- no granule from an address on is tagged
abbrev pub NoneTagged : TaggedMemory → ℕ → Type 0
NoneTagged memory from = (a : ℕ) → from ≤ a → is_tagged memory a ≡ false

-- the 16 bytes of a word, and the word of 16 bytes
abbrev pub word_bytes : Word → List ℕ
word_bytes w = number_bytes 8 w.address ++ number_bytes 8 w.meta

abbrev pub word_in : List ℕ → ℕ → Word
word_in bytes at = record { address = number_at 8 bytes at; meta = number_at 8 bytes (at + 8) }

-- the bytes with these in the place of those at an address
abbrev pub bytes_with : TaggedMemory → ℕ → List ℕ → List ℕ
bytes_with memory at bytes =
    replace_range memory.bytes (at - memory.base) (at - memory.base + length bytes) bytes

-- a store of so many bytes takes a byte of the granule
abbrev pub is_touched : ℕ → ℕ → ℕ → Bool
is_touched at len granule = share_byte (at, len) (granule, 16)

-- the words whose granules the store leaves alone
abbrev pub without_touched : ℕ → ℕ → List TaggedWord → List TaggedWord
without_touched at len words = filter (λ w. not (is_touched at len w.granule)) words

-- the words that stand elsewhere
abbrev pub without_granule : ℕ → List TaggedWord → List TaggedWord
without_granule granule words = filter (λ w. not (w.granule == granule)) words

-- after a store of bytes: they stand there, and each granule that they touch has lost its tag
abbrev pub with_bytes : TaggedMemory → ℕ → List ℕ → TaggedMemory
with_bytes memory at bytes = record memory {
  bytes = bytes_with memory at bytes;
  words = without_touched at (length bytes) memory.words;
}

-- the words with one more, which is the last of its owner's
abbrev pub entered : List TaggedWord → TaggedWord → List TaggedWord
entered words w =
    filter (λ v. not (nat_lt w.cap.owner v.cap.owner)) words
    ++ w ∷ filter (λ v. nat_lt w.cap.owner v.cap.owner) words

-- after a store of a capability: its word stands there, and the granule has left the list that it was in, and is the
-- last of the list of the capability's owner
abbrev pub with_cap : TaggedMemory → ℕ → Cap → ℕ → TaggedMemory
with_cap memory at cap note = record memory {
  bytes = bytes_with memory at (word_bytes (word_of_cap cap));
  words = entered (without_granule at memory.words) (record { granule = at; cap = cap; note = note });
}

-- bytes of zero
abbrev pub zeros : ℕ → List ℕ
zeros len = replicate len 0

-- new memory from a base on: zeros, without a tag
abbrev pub fresh_memory : ℕ → ℕ → TaggedMemory
fresh_memory base len = record { base = base; bytes = zeros len; words = [] }

-- the granule of the first word
abbrev pub first_granule : List TaggedWord → Option ℕ
first_granule [] = None
first_granule (w ∷ words) = Some w.granule

-- the granule that follows another in a list
abbrev pub granule_after : ℕ → List TaggedWord → Option ℕ
granule_after granule [] = None
granule_after granule (w ∷ words) = if w.granule == granule then first_granule words else granule_after granule words

-- the granule that follows in the list of the owner of the word that was found
abbrev pub next_in : TaggedMemory → ℕ → Option TaggedWord → Option ℕ
next_in memory granule None = None
next_in memory granule (Some w) = granule_after granule (list_of memory w.cap.owner)

-- the granule that follows this one in the list of its owner
abbrev pub next_granule : TaggedMemory → ℕ → Option ℕ
next_granule memory granule = next_in memory granule (tagged_word memory granule)

-- the bytes at an address
abbrev pub bytes_at : TaggedMemory → ℕ → ℕ → List ℕ
bytes_at memory at len = take len (drop (at - memory.base) memory.bytes)

-- the range is in the memory
pub record IsInside (memory : TaggedMemory) (at len : ℕ) : Type 0 where
  pub from : memory.base ≤ at
  pub to : at + len ≤ memory.base + length memory.bytes

-- the address is that of a tagged granule
pub record IsTaggedGranule (memory : TaggedMemory) (granule : ℕ) : Type 0 where
  pub tagged : is_tagged memory granule ≡ true
  pub aligned : granule % 16 ≡ 0
  pub inside : IsInside memory granule 16
