-- Writing an image: its bytes, the image of memories, and what can be written.
use Rattle.std.specs.Prelude.{◌≡◌, ℕ, zero, suc, ◌+◌, ◌*◌, ◌/◌, ◌%◌, ◌^◌, ◌<◌, ◌≤◌, Bool, false, List, [], ◌++◌, length, map, flat_map, codes, slice_index_or, All}
use Rattle.std.specs.List.{range_with_len, zip}
use Rattle.std.specs.Int.{from_bool}
use Rattle.cap_base.specs.Field.{number_bytes}
use Rattle.cap_mem.specs.Ascending.{Ascend}
use Rattle.cap_mem.specs.Tagged.{TaggedMemory, TaggedWord, is_tagged}
use Rattle.cap_image.specs.declared.header.Version.{Version}
use Rattle.cap_image.specs.declared.header.Version.TheVariants.{One, Two}
use Rattle.cap_image.specs.Parts.{WordRecord, ImageObject, ImageParts}

-- the n bytes of a number, the lowest first
unfoldable pub field_bytes : ℕ → ℕ → List ℕ
field_bytes n x = number_bytes n x

abbrev pub version_number : Version → ℕ
version_number One = 1
version_number Two = 2

-- the header: the magic, the version and the number of objects
unfoldable pub header_bytes : Version → ℕ → List ℕ
header_bytes version count = codes "PURECAPI" ++ field_bytes 4 (version_number version) ++ field_bytes 4 count

-- a name, after its length
unfoldable pub name_bytes : List ℕ → List ℕ
name_bytes name = field_bytes 2 (length name) ++ name

-- the record of an object: where it is mapped, how many bytes, and its name
unfoldable pub object_record : ℕ → ℕ → List ℕ → List ℕ
object_record base size name = field_bytes 8 base ++ field_bytes 8 size ++ name_bytes name

abbrev pub object_bytes : ImageObject → List ℕ
object_bytes o = object_record o.base (length o.bytes) o.name

-- a word record
unfoldable pub word_bytes : WordRecord → List ℕ
word_bytes w = field_bytes 8 w.granule ++ field_bytes 2 w.owner ++ name_bytes w.name

-- how many word records there are, and the records; version 1 has none of both
unfoldable pub words_bytes : Version → List WordRecord → List ℕ
words_bytes One words = []
words_bytes Two words = field_bytes 4 (length words) ++ flat_map word_bytes words

-- what stands of an object behind all records: its bytes, its tags and its word records
unfoldable pub body_bytes : Version → ImageObject → List ℕ
body_bytes version o = o.bytes ++ o.tags ++ words_bytes version o.words

-- the bytes of an image
unfoldable pub image_bytes : ImageParts → List ℕ
image_bytes image =
    header_bytes image.version (length image.objects)
    ++ flat_map object_bytes image.objects
    ++ flat_map (body_bytes image.version) image.objects

-- the tags of n granules from an address on as a number, of which bit i is the tag of granule i
unfoldable pub tags_number : TaggedMemory → ℕ → ℕ → ℕ
tags_number memory at zero = 0
tags_number memory at (suc n) = tags_number memory at n + from_bool (is_tagged memory (at + 16 * n)) * 2 ^ n

abbrev pub tag_byte : TaggedMemory → ℕ → ℕ
tag_byte memory at = tags_number memory at 8

-- so many tag bytes of a memory, each with the tags of eight granules
unfoldable pub first_tag_bytes : TaggedMemory → ℕ → List ℕ
first_tag_bytes memory n = map (λ j. tag_byte memory (memory.base + 128 * j)) (range_with_len 0 n)

-- the tags of all granules
abbrev pub tag_bytes : TaggedMemory → List ℕ
tag_bytes memory = first_tag_bytes memory (length memory.bytes / 128)

-- the name of a symbol, by the number of its object and its index in the object's table
abbrev pub symbol_name : List (List (List ℕ × Bool)) → ℕ → ℕ → List ℕ
symbol_name symbols owner symbol = (slice_index_or (slice_index_or symbols owner []) symbol ([], false)).0

-- the record of a tagged word: its granule, the owner of its capability, and the name of the symbol of its note
abbrev pub record_of : List (List (List ℕ × Bool)) → TaggedWord → WordRecord
record_of symbols w = record { granule = w.granule; owner = w.cap.owner; name = symbol_name symbols w.cap.owner w.note }

-- the records of tagged words
unfoldable pub records_of : List (List (List ℕ × Bool)) → List TaggedWord → List WordRecord
records_of symbols words = map (record_of symbols) words

-- the object of a name and a memory
abbrev pub object_of : List (List (List ℕ × Bool)) → (List ℕ × Bool) × TaggedMemory → ImageObject
object_of symbols of = record {
  base = of.1.base;
  name = of.0.0;
  bytes = of.1.bytes;
  tags = tag_bytes of.1;
  words = records_of symbols of.1.words;
}

-- the objects of memories, of which each has a name, and the names of its symbols by their indices
abbrev pub objects_of : List (List ℕ × Bool) → List (List (List ℕ × Bool)) → List TaggedMemory → List ImageObject
objects_of names symbols memories = map (object_of symbols) (zip names memories)

-- the image of memories
abbrev pub image_of : List (List ℕ × Bool) → List (List (List ℕ × Bool)) → List TaggedMemory → ImageParts
image_of names symbols memories = record { version = Two; objects = objects_of names symbols memories }

-- the owner is one of the objects, and the note is a symbol of it: so the symbol's name is there to be written
pub record HasSymbol (symbols : List (List (List ℕ × Bool))) (owner note : ℕ) : Type 0 where
  pub owner_is : owner < length symbols
  pub note_is : note < length (slice_index_or symbols owner [])

-- a memory has whole pages, as an image's objects have, and so eight granules to each tag byte; it has fewer than 2^32
-- granules, so that 4 bytes hold how many of them are tagged; and its words have symbols
pub record IsWritable (symbols : List (List (List ℕ × Bool))) (memory : TaggedMemory) : Type 0 where
  pub pages : length memory.bytes % 4096 ≡ 0
  pub size : length memory.bytes < 2 ^ 36
  pub words : All (λ w. HasSymbol symbols w.cap.owner w.note) memory.words

-- a name of an object has 1 to 255 bytes
pub record IsObjectName (name : List ℕ × Bool) : Type 0 where
  pub some : 0 < length name.0
  pub short : length name.0 ≤ 255

abbrev pub AreShort : List (List ℕ × Bool) → Type 0
AreShort names = All (λ name. length name.0 ≤ 255) names

-- what the format has room for: at most 256 objects; a name and a list of symbols for each; names of 1 to 255 bytes,
-- and of symbols at most 255; objects one behind another, in 64 bits; and what is said of each memory
pub record CanBeWritten (names : List (List ℕ × Bool)) (symbols : List (List (List ℕ × Bool))) (memories : List TaggedMemory) : Type 0 where
  pub few : length memories ≤ 256
  pub name_count : length names ≡ length memories
  pub symbol_count : length symbols ≡ length memories
  pub object_names : All IsObjectName names
  pub symbol_names : All AreShort symbols
  pub ascending : Ascend 0 memories (2 ^ 64)
  pub writable : All (IsWritable symbols) memories
