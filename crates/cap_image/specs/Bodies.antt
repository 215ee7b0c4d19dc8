-- The bodies of an image's objects, which follow all records: bytes, tags, and in version 2 word records.
use Rattle.std.specs.Prelude.{◌≡◌, ℕ, ◌+◌, ◌/◌, ◌%◌, ◌^◌, ◌<◌, ◌≤◌, List, [], ◌∷◌, ◌++◌, length, map, All, Result, Ok}
use Rattle.cap_base.specs.Steps.{◌>>=◌, ◌>>◌, steps}
use Rattle.cap_base.specs.declared.refusal.Fault.{Fault}
use Rattle.cap_image.specs.declared.header.Version.{Version}
use Rattle.cap_image.specs.declared.records.ObjectRecord.{ObjectRecord}
use Rattle.cap_image.specs.declared.words.WordPlace.{WordPlace}
use Rattle.cap_image.specs.Parts.{ImageObject, IsObject, HasWords, interval_of}
use Rattle.cap_image.specs.Header.{reaches}
use Rattle.cap_image.specs.Records.{piece, interval_at}
use Rattle.cap_image.specs.Words.{words_of, word_in, IsNameInside}

-- the end of the tags of a body at a place: a byte for 8 granules, of 16 bytes each
abbrev pub tags_end : ℕ → ℕ → ℕ
tags_end at size = at + size + size / 128

-- where the parts of a body stand: of the bytes, and of the names in the word records
pub record BodyParts : Type 0 where
  pub of : ObjectRecord
  pub bytes_at : ℕ
  pub words : List WordPlace
  pub ends_at : ℕ

-- the tags of an object whose bytes stand at a place
abbrev pub tags_at : List ℕ → ℕ → ℕ → List ℕ
tags_at bytes at size = piece bytes (at + size) (size / 128)

-- the body at a place, of the object of this record: bytes, tags, and word records
unfoldable pub body_at : Version → List ℕ → ℕ → ObjectRecord → ℕ → Result BodyParts Fault
body_at version bytes count of at = do
  reaches bytes (tags_end at of.size)
  words ← words_of version bytes count of (tags_at bytes at of.size) (tags_end at of.size)
  Ok (record { of = of; bytes_at = at; words = words.items; ends_at = words.at })

-- the bodies read so far, and the place behind the last
pub record Bodies : Type 0 where
  pub items : List BodyParts
  pub at : ℕ

-- the body of one object more
unfoldable pub add_body : Version → List ℕ → ℕ → Bodies → ObjectRecord → Result Bodies Fault
add_body version bytes count bodies of = do
  next ← body_at version bytes count of bodies.at
  Ok (record { items = bodies.items ++ next ∷ []; at = next.ends_at })

-- the bodies of objects, from a place on
abbrev pub bodies_of : Version → List ℕ → ℕ → List ObjectRecord → ℕ → Result Bodies Fault
bodies_of version bytes count records at = steps (add_body version bytes count) (record { items = []; at = at }) records

-- an object, by the places of its parts in the image
abbrev pub object_in : List ℕ → BodyParts → ImageObject
object_in bytes body = record {
  base = body.of.base;
  name = piece bytes body.of.name_at body.of.name_len;
  bytes = piece bytes body.bytes_at body.of.size;
  tags = tags_at bytes body.bytes_at body.of.size;
  words = map (word_in bytes) body.words;
}

-- the parts of an object stand inside the image
pub record IsInside (bytes : List ℕ) (body : BodyParts) : Type 0 where
  pub object : IsObject (object_in bytes body)
  pub pages : body.of.size % 4096 ≡ 0
  pub name : body.of.name_at + body.of.name_len ≤ length bytes
  pub tags : body.bytes_at + body.of.size + body.of.size / 128 ≤ length bytes
  pub words : All (IsNameInside bytes) body.words
  pub few_words : length body.words < 2 ^ 32

-- the word records are those of this version, in an image of so many objects
abbrev pub HasWordsIn : Version → List ℕ → ℕ → BodyParts → Type 0
HasWordsIn version bytes count body = HasWords version count (object_in bytes body)

-- what bodies that were read have: they are those of these records, inside the image, each with the word records of its version
pub record AreBodies (version : Version) (bytes : List ℕ) (count : ℕ) (records : List ObjectRecord) (bodies : List BodyParts) : Type 0 where
  pub inside : All (IsInside bytes) bodies
  pub intervals : map interval_of (map (object_in bytes) bodies) ≡ map interval_at records
  pub words : All (HasWordsIn version bytes count) bodies
