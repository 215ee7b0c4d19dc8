-- The word records of an object, which follow its tags in version 2: their number, and then granule, owner, length of the
-- name, and name of each.
use Rattle.std.specs.Prelude.{◌≡◌, ℕ, ◌+◌, ◌*◌, ◌/◌, ◌<◌, ◌≤◌, Bool, false, not, ◌==◌, ◌&&◌, nat_lt, nat_le, List, [], ◌∷◌, ◌++◌, length, map, count_by, All, AllPairs, slice_index_or, Result, Ok}
use Rattle.std.specs.List.{list_any, range_with_len}
use Rattle.cap_base.specs.Field.{number_at}
use Rattle.cap_base.specs.Steps.{◌>>=◌, ◌>>◌, refuse}
use Rattle.cap_base.specs.Text.{is_plain}
use Rattle.cap_base.specs.declared.check.Check.TheVariants as checks
use Rattle.cap_base.specs.declared.refusal.Fault.{Fault}
use Rattle.cap_image.specs.declared.header.Version.{Version}
use Rattle.cap_image.specs.declared.header.Version.TheVariants.{One, Two}
use Rattle.cap_image.specs.declared.records.ObjectRecord.{ObjectRecord}
use Rattle.cap_image.specs.declared.words.WordPlace.{WordPlace}
use Rattle.cap_image.specs.Parts.{WordRecord, IsWord, FollowsWord, has_tag, is_tagged_granule}
use Rattle.cap_image.specs.Header.{reaches}
use Rattle.cap_image.specs.Records.{piece, repeated}

-- how many of the first granules are tagged
abbrev pub count_below : List ℕ → ℕ → ℕ
count_below tags n = count_by (has_tag tags) (map (λ i. 16 * i) (range_with_len 0 n))

-- how many granules are tagged
abbrev pub tag_count : List ℕ → ℕ
tag_count tags = count_below tags (8 * length tags)

-- the word records read so far, the owner of the last, and the place behind it
pub record Words : Type 0 where
  pub items : List WordPlace
  pub owner : ℕ
  pub at : ℕ

abbrev pub no_words : ℕ → Words
no_words at = record { items = []; owner = 0; at = at }

-- one of the records is that of the granule
abbrev pub is_listed : List WordPlace → ℕ → Bool
is_listed words granule = list_any (λ w. w.granule == granule) words

-- a tagged granule of the object that isn't listed yet, and an object of the image that isn't below the owner before
abbrev pub is_next : ℕ → ObjectRecord → List ℕ → Words → ℕ → ℕ → Bool
is_next count of tags words granule owner =
    is_tagged_granule of.base of.size tags granule && not (is_listed words.items granule)
    && nat_lt owner count && nat_le words.owner owner

-- the word record behind those that were read
unfoldable pub word_at : List ℕ → ℕ → ObjectRecord → List ℕ → Words → Result WordPlace Fault
word_at bytes count of tags words = do
  reaches bytes (words.at + 12)
  refuse (not (is_next count of tags words (number_at 8 bytes words.at) (number_at 2 bytes (words.at + 8)))) checks.WordRecord words.at
  refuse (nat_lt 255 (number_at 2 bytes (words.at + 10))) checks.WordName (words.at + 10)
  reaches bytes (words.at + 12 + number_at 2 bytes (words.at + 10))
  refuse (not (is_plain (piece bytes (words.at + 12) (number_at 2 bytes (words.at + 10))))) checks.WordName (words.at + 10)
  Ok (record { granule = number_at 8 bytes words.at; owner = number_at 2 bytes (words.at + 8); name_at = words.at + 12; name_len = number_at 2 bytes (words.at + 10) })

abbrev pub with_word : Words → WordPlace → Words
with_word words next = record { items = words.items ++ next ∷ []; owner = next.owner; at = next.name_at + next.name_len }

-- one word record more
unfoldable pub add_word : List ℕ → ℕ → ObjectRecord → List ℕ → Words → Result Words Fault
add_word bytes count of tags words = do
  next ← word_at bytes count of tags words
  Ok (with_word words next)

-- the word records at a place, as many as there are tags
unfoldable pub words_at : List ℕ → ℕ → ObjectRecord → List ℕ → ℕ → Result Words Fault
words_at bytes count of tags at = do
  reaches bytes (at + 4)
  refuse (not (number_at 4 bytes at == tag_count tags)) checks.WordRecord at
  repeated (add_word bytes count of tags) (number_at 4 bytes at) (no_words (at + 4))

-- the word records of an object, behind its tags
unfoldable pub words_of : Version → List ℕ → ℕ → ObjectRecord → List ℕ → ℕ → Result Words Fault
words_of One bytes count of tags at = Ok (no_words at)
words_of Two bytes count of tags at = words_at bytes count of tags at

-- a word record, by the place of its name in the image
abbrev pub word_in : List ℕ → WordPlace → WordRecord
word_in bytes w = record { granule = w.granule; owner = w.owner; name = piece bytes w.name_at w.name_len }

-- the name of a word record stands inside the image
abbrev pub IsNameInside : List ℕ → WordPlace → Type 0
IsNameInside bytes w = w.name_at + w.name_len ≤ length bytes

-- a word record that was read: its name stands inside the image
pub record IsWordPlace (bytes : List ℕ) (count : ℕ) (of : ObjectRecord) (tags : List ℕ) (w : WordPlace) : Type 0 where
  pub word : IsWord count of.base of.size tags (word_in bytes w)
  pub inside : IsNameInside bytes w

-- a word record that may follow those that were read
pub record IsBehind (words : Words) (w : WordPlace) : Type 0 where
  pub new : is_listed words.items w.granule ≡ false
  pub owner : words.owner ≤ w.owner

-- what the first word records have
pub record AreListed (bytes : List ℕ) (count : ℕ) (of : ObjectRecord) (tags : List ℕ) (words : Words) : Type 0 where
  pub each : All (IsWordPlace bytes count of tags) words.items
  pub apart : AllPairs (λ v w. FollowsWord (word_in bytes v) (word_in bytes w)) words.items
  pub below : All (λ w. w.owner ≤ words.owner) words.items

-- what all word records of an object have
pub record HaveTags (bytes : List ℕ) (count : ℕ) (of : ObjectRecord) (tags : List ℕ) (words : List WordPlace) : Type 0 where
  pub each : All (IsWordPlace bytes count of tags) words
  pub apart : AllPairs (λ v w. FollowsWord (word_in bytes v) (word_in bytes w)) words
  pub as_many : length words ≡ tag_count tags

-- a mark for each granule of an object: whether one of the records lists it
pub record AreMarks (of : ObjectRecord) (words : List WordPlace) (marks : List Bool) : Type 0 where
  pub count : length marks ≡ of.size / 16
  pub each : (n : ℕ) → n < length marks → slice_index_or marks n false ≡ is_listed words (of.base + 16 * n)

-- what the word records of an object have, in an image of this version
unfoldable pub HaveBeenRead : Version → List ℕ → ℕ → ObjectRecord → List ℕ → List WordPlace → Type 0
HaveBeenRead One bytes count of tags words = words ≡ []
HaveBeenRead Two bytes count of tags words = HaveTags bytes count of tags words
