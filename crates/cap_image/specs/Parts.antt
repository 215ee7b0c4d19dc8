-- What an image is made of.
use Rattle.std.specs.Prelude.{◌≡◌, ◌≢◌, ℕ, ◌+◌, ◌-◌, ◌*◌, ◌/◌, ◌%◌, ◌^◌, ◌<◌, ◌≤◌, Bool, ◌==◌, ◌&&◌, nat_lt, nat_le, IsTrue, List, [], ◌∷◌, length, map, filter, All, AllPairs, slice_index}
use Rattle.std.specs.List.{list_any, range_with_len}
use Rattle.cap_base.specs.Text.{is_plain}
use Rattle.cap_image.specs.declared.header.Version.{Version}
use Rattle.cap_image.specs.declared.header.Version.TheVariants.{One, Two}

-- a tagged granule, the number of the object in which its definition stands, and the name of the definition's symbol
pub record WordRecord : Type 0 where
  pub granule : ℕ
  pub owner : ℕ
  pub name : List ℕ

abbrev pub no_word : WordRecord
no_word = record { granule = 0; owner = 0; name = [] }

-- one object: where it is mapped, its name, its bytes, its tags, and its word records; bit i of tag byte j is the tag of
-- the granule 8 * j + i
pub record ImageObject : Type 0 where
  pub base : ℕ
  pub name : List ℕ
  pub bytes : List ℕ
  pub tags : List ℕ
  pub words : List WordRecord

-- an image; one of version 1 has no word records
pub record ImageParts : Type 0 where
  pub version : Version
  pub objects : List ImageObject

abbrev pub no_object : ImageObject
no_object = record { base = 0; name = []; bytes = []; tags = []; words = [] }

-- the tag of the byte at an offset of an object: a granule has 16 bytes
abbrev pub has_tag : List ℕ → ℕ → Bool
has_tag tags offset = slice_index tags (offset / 128) / 2 ^ (offset / 16 % 8) % 2 == 1

-- the object holds the address, and its granule is tagged
abbrev pub is_tagged_in : ℕ → ImageObject → Bool
is_tagged_in at o = nat_le o.base at && nat_lt at (o.base + length o.bytes) && has_tag o.tags (at - o.base)

-- the tag of the granule that holds the address; false outside the mappings
abbrev pub tag_in : ImageParts → ℕ → Bool
tag_in image at = list_any (is_tagged_in at) image.objects

-- of so many granules from a base on, those that are tagged, in ascending order
unfoldable pub tagged_below : ℕ → List ℕ → ℕ → List ℕ
tagged_below base tags count =
    filter (λ granule. has_tag tags (granule - base)) (map (λ i. base + 16 * i) (range_with_len 0 count))

-- the tagged granules of an object
abbrev pub tagged_granules : ImageObject → List ℕ
tagged_granules o = tagged_below o.base o.tags (length o.bytes / 16)

-- where objects may be mapped: from here up to there
abbrev pub space_start : ℕ
space_start = 0x40000000

abbrev pub space_end : ℕ
space_end = 0x44000000

-- intervals, each a place and a length, one behind another from a place up to another
unfoldable pub Ascend : ℕ → List (ℕ × ℕ) → ℕ → Type 0
Ascend from [] to = from ≤ to
Ascend from (x ∷ xs) to = (from ≤ x.0) × Ascend (x.0 + x.1) xs to

abbrev pub interval_of : ImageObject → ℕ × ℕ
interval_of o = (o.base, length o.bytes)

-- an object has whole pages, at least one, below the end of the addresses, a name of 1 to 255 printable characters, and a tag for each granule
pub record IsObject (o : ImageObject) : Type 0 where
  pub base_in_pages : o.base % 4096 ≡ 0
  pub size_in_pages : length o.bytes % 4096 ≡ 0
  pub some_bytes : 0 < length o.bytes
  pub within : o.base + length o.bytes ≤ space_end
  pub some_name : 0 < length o.name
  pub short_name : length o.name ≤ 255
  pub plain_name : IsTrue (is_plain o.name)
  pub tag_count : length o.tags ≡ length o.bytes / 128

-- a tagged granule of an object, which is mapped from a base on
abbrev pub is_tagged_granule : ℕ → ℕ → List ℕ → ℕ → Bool
is_tagged_granule base size tags granule =
    granule % 16 == 0 && nat_le base granule && nat_lt granule (base + size) && has_tag tags (granule - base)

-- a word record names a tagged granule of its object, one of the image's objects, and a symbol with a name of at most 255
-- printable characters, or none
pub record IsWord (count base size : ℕ) (tags : List ℕ) (w : WordRecord) : Type 0 where
  pub granule : IsTrue (is_tagged_granule base size tags w.granule)
  pub owner : w.owner < count
  pub short_name : length w.name ≤ 255
  pub plain_name : IsTrue (is_plain w.name)

-- one behind another: another granule, and not a lower owner
pub record FollowsWord (v w : WordRecord) : Type 0 where
  pub granule : v.granule ≢ w.granule
  pub owner : v.owner ≤ w.owner

-- the word records of an object: one for each tagged granule, in ascending order of owners
pub record AreWords (count : ℕ) (o : ImageObject) : Type 0 where
  pub each : All (IsWord count o.base (length o.bytes) o.tags) o.words
  pub apart : AllPairs FollowsWord o.words
  pub as_many : length o.words ≡ length (tagged_granules o)

-- version 1 has no word records
unfoldable pub HasWords : Version → ℕ → ImageObject → Type 0
HasWords One count o = o.words ≡ []
HasWords Two count o = AreWords count o

-- what each image that was read has: at most 256 objects, in ascending order, within the addresses, with the word records
-- of its version
pub record IsImage (image : ImageParts) : Type 0 where
  pub few : length image.objects ≤ 256
  pub objects : All IsObject image.objects
  pub ascending : Ascend space_start (map interval_of image.objects) space_end
  pub words : All (HasWords image.version (length image.objects)) image.objects
