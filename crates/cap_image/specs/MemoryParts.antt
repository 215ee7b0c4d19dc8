-- The parts of an image by the memories that they are written from.
use Rattle.std.specs.Prelude.{ℕ, Bool, List, ◌++◌, length, take, flat_map, All, ◌≤◌, ◌+◌, ◌^◌}
use Rattle.std.specs.List.{zip}
use Rattle.cap_mem.specs.IsMemory.{IsMemory}
use Rattle.cap_mem.specs.Tagged.{TaggedMemory}
use Rattle.cap_image.specs.declared.header.Version.TheVariants.{Two}
use Rattle.cap_image.specs.declared.word_walk.FoundWord.{FoundWord}
use Rattle.cap_image.specs.Parts.{WordRecord}
use Rattle.cap_image.specs.Writing.{object_record, word_bytes, words_bytes, tag_bytes, symbol_name, records_of, HasSymbol}

-- the record of a word as a walk finds it
abbrev pub record_found : List (List (List ℕ × Bool)) → FoundWord → WordRecord
record_found symbols f = record { granule = f.granule; owner = f.note.owner; name = symbol_name symbols f.note.owner f.note.symbol }

abbrev pub HasItsSymbol : List (List (List ℕ × Bool)) → FoundWord → Type 0
HasItsSymbol symbols f = HasSymbol symbols f.note.owner f.note.symbol

unfoldable pub HaveSymbols : List (List (List ℕ × Bool)) → List FoundWord → Type 0
HaveSymbols symbols founds = All (HasItsSymbol symbols) founds

-- the length of the name of a word's symbol
unfoldable pub symbol_length : List (List (List ℕ × Bool)) → FoundWord → ℕ
symbol_length symbols f = length (symbol_name symbols f.note.owner f.note.symbol)

-- the records of words as a walk finds them
unfoldable pub founds_bytes : List (List (List ℕ × Bool)) → List FoundWord → List ℕ
founds_bytes symbols founds = flat_map (λ f. word_bytes (record_found symbols f)) founds

-- the memory ends within 64 bits
pub record EndsLow (memory : TaggedMemory) : Type 0 where
  pub end : memory.base + length memory.bytes ≤ 2 ^ 64

-- the words of the first n memories are those of tagged memories
pub record AreSound (memories : List TaggedMemory) (n : ℕ) : Type 0 where
  pub each : All IsMemory (take n memories)

-- the record of a memory, with its name
unfoldable pub record_for : (List ℕ × Bool) × TaggedMemory → List ℕ
record_for of = object_record of.1.base (length of.1.bytes) of.0.0

-- what stands of a memory behind all records
unfoldable pub body_for : List (List (List ℕ × Bool)) → TaggedMemory → List ℕ
body_for symbols memory = memory.bytes ++ tag_bytes memory ++ words_bytes Two (records_of symbols memory.words)

-- the records of the first n memories
unfoldable pub records_below : List (List ℕ × Bool) → List TaggedMemory → ℕ → List ℕ
records_below names memories n = flat_map record_for (take n (zip names memories))

-- what stands of the first n memories behind all records
unfoldable pub bodies_below : List (List (List ℕ × Bool)) → List TaggedMemory → ℕ → List ℕ
bodies_below symbols memories n = flat_map (body_for symbols) (take n memories)
