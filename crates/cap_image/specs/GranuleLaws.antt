-- Laws of the tagged granules of an image.
use Rattle.std.specs.Prelude.{◌≡◌, ◌↔◌, ℕ, ◌^◌, ◌<◌, ◌≤◌, true, length, Contains, slice_index_or}
use Rattle.std.specs.List.Sorted.{IsStrictlyIncreasing}
use Rattle.cap_image.specs.Parts.{ImageParts, IsImage, no_object, tagged_granules}
use Rattle.cap_image.specs.Granules.{tagged_of, is_held, is_tagged_at, object_at}

-- objects ascend, so all tagged granules do
abbrev pub GranulesAscend : Type 0
GranulesAscend = (image : ImageParts) → IsImage image → IsStrictlyIncreasing (tagged_of image)

-- there are no more than the addresses of all mappings have room for
abbrev pub GranulesAreFew : Type 0
GranulesAreFew = (image : ImageParts) → IsImage image → length (tagged_of image) ≤ 2 ^ 22

-- those are listed that a reader of single tags finds
abbrev pub GranulesAreTagged : Type 0
GranulesAreTagged =
    (image : ImageParts) (granule : ℕ)
    → IsImage image
    → Contains (tagged_of image) granule ↔ (is_tagged_at image granule ≡ true)

-- a granule that is listed in an object is held by it
abbrev pub GranulesHaveObjects : Type 0
GranulesHaveObjects =
    (image : ImageParts) (i granule : ℕ)
    → IsImage image
    → i < length image.objects
    → Contains (tagged_granules (slice_index_or image.objects i no_object)) granule
    → object_at image granule ≡ slice_index_or image.objects i no_object

-- an object that holds an address is the one that is found there
abbrev pub HeldHaveObjects : Type 0
HeldHaveObjects =
    (image : ImageParts) (i at : ℕ)
    → IsImage image
    → i < length image.objects
    → is_held at (slice_index_or image.objects i no_object) ≡ true
    → object_at image at ≡ slice_index_or image.objects i no_object
