-- Objects that are the same as far as they are compared.
use Rattle.std.specs.Prelude.{◌≡◌, ℕ, ◌*◌, ◌<◌, Bool, ◌==◌, ◌&&◌, bytes_eq, length, slice_index, slice_get}
use Rattle.cap_image.specs.Parts.{ImageObject, ImageParts}
use Rattle.cap_image.specs.Records.{piece}
use Rattle.cap_audit.specs.Findings.{is_same_object, object_at}

-- two objects with one base, one size and one name
pub record AreAlike (a b : ImageObject) : Type 0 where
  pub base : a.base ≡ b.base
  pub size : length a.bytes ≡ length b.bytes
  pub name : a.name ≡ b.name

-- two images have as many objects, each like the one of the same number
pub record HaveSameObjects (image wanted : ImageParts) : Type 0 where
  pub count : length image.objects ≡ length wanted.objects
  pub each : (k : ℕ) → k < length image.objects → AreAlike (object_at image k) (object_at wanted k)

-- both images have object k, and it is the same
abbrev pub is_same_object_at : ImageParts → ImageParts → ℕ → Bool
is_same_object_at image wanted k = is_same_object (slice_get image.objects k) (slice_get wanted.objects k)

-- two objects have the same bytes and the same tags
abbrev pub have_same_memory : ImageObject → ImageObject → Bool
have_same_memory a b = bytes_eq a.bytes b.bytes && bytes_eq a.tags b.tags

-- none of eight granules is tagged, which share tag byte j, and their bytes are the same
abbrev pub are_same_eight : ImageObject → ImageObject → ℕ → Bool
are_same_eight a b j =
    slice_index a.tags j == 0 && slice_index b.tags j == 0 && bytes_eq (piece a.bytes (128 * j) 128) (piece b.bytes (128 * j) 128)
