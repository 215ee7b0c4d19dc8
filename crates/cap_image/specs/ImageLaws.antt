-- Laws of the image of memories: its tags and its word records are those of the memories.
use Rattle.std.specs.Prelude.{◌≡◌, ◌≢◌, ℕ, ◌+◌, ◌*◌, ◌<◌, Bool, false, ◌==◌, List, [], length, AllPairs, slice_index_or}
use Rattle.std.specs.List.{list_any}
use Rattle.cap_mem.specs.IsMemory.{IsMemory}
use Rattle.cap_mem.specs.Tagged.{TaggedMemory, is_tagged}
use Rattle.cap_image.specs.Parts.{WordRecord, ImageObject, no_object, has_tag, tag_in}
use Rattle.cap_image.specs.Writing.{object_of, objects_of, image_of, CanBeWritten}

-- an object has a tag for each granule of a memory, which is 1 exactly where the memory is tagged
abbrev pub HasTagsOf : TaggedMemory → ImageObject → Type 0
HasTagsOf memory o =
    (k : ℕ) → 16 * k < length memory.bytes → has_tag o.tags (16 * k) ≡ is_tagged memory (memory.base + 16 * k)

-- there is a word record for each tagged granule of a memory and for no other, and none twice
pub record ListsWordsOf (memory : TaggedMemory) (words : List WordRecord) : Type 0 where
  pub each : (granule : ℕ) → list_any (λ w. w.granule == granule) words ≡ is_tagged memory granule
  pub once : AllPairs (λ v w. v.granule ≢ w.granule) words

-- each object of the image is that of its memory and its name
abbrev pub ObjectsAreOfMemories : Type 0
ObjectsAreOfMemories =
    (names : List (List ℕ × Bool)) (symbols : List (List (List ℕ × Bool))) (memories : List TaggedMemory) (i : ℕ) (d : TaggedMemory)
    → CanBeWritten names symbols memories
    → i < length memories
    → slice_index_or (objects_of names symbols memories) i no_object ≡ object_of symbols (slice_index_or names i ([], false), slice_index_or memories i d)

-- the object of a memory that can be written has its tags
abbrev pub TagsAreOfMemories : Type 0
TagsAreOfMemories =
    (names : List (List ℕ × Bool)) (symbols : List (List (List ℕ × Bool))) (memories : List TaggedMemory) (i : ℕ) (d : TaggedMemory)
    → CanBeWritten names symbols memories
    → i < length memories
    → HasTagsOf (slice_index_or memories i d) (slice_index_or (objects_of names symbols memories) i no_object)

-- a reader of the image finds these tags at the memory's addresses
abbrev pub TagsAreRead : Type 0
TagsAreRead =
    (names : List (List ℕ × Bool)) (symbols : List (List (List ℕ × Bool))) (memories : List TaggedMemory) (i : ℕ) (d : TaggedMemory)
    → CanBeWritten names symbols memories
    → i < length memories
    → (k : ℕ)
    → 16 * k < length (slice_index_or memories i d).bytes
    → tag_in (image_of names symbols memories) ((slice_index_or memories i d).base + 16 * k) ≡ is_tagged (slice_index_or memories i d) ((slice_index_or memories i d).base + 16 * k)

-- the word records of an object are the tagged granules of its memory, each once
abbrev pub WordsAreOfMemories : Type 0
WordsAreOfMemories =
    (names : List (List ℕ × Bool)) (symbols : List (List (List ℕ × Bool))) (memories : List TaggedMemory) (i : ℕ) (d : TaggedMemory)
    → CanBeWritten names symbols memories
    → i < length memories
    → IsMemory (slice_index_or memories i d)
    → ListsWordsOf (slice_index_or memories i d) (slice_index_or (objects_of names symbols memories) i no_object).words
