-- The tagged granules of an image: all of them in ascending order, and the object that holds each.
use Rattle.std.specs.Prelude.{ℕ, ◌+◌, ◌%◌, Bool, ◌==◌, ◌&&◌, nat_lt, nat_le, List, length, find, flat_map, unwrap_or}
use Rattle.cap_image.specs.Parts.{ImageObject, ImageParts, no_object, tag_in, tagged_granules}
use Rattle.cap_image.specs.Report.{cap_line}

-- all of them
abbrev pub tagged_of : ImageParts → List ℕ
tagged_of image = flat_map tagged_granules image.objects

-- the address is that of a granule, which has 16 bytes, and the granule is tagged
abbrev pub is_tagged_at : ImageParts → ℕ → Bool
is_tagged_at image at = at % 16 == 0 && tag_in image at

-- the address is one of the object's
abbrev pub is_held : ℕ → ImageObject → Bool
is_held at o = nat_le o.base at && nat_lt at (o.base + length o.bytes)

-- the object that holds the address
abbrev pub object_at : ImageParts → ℕ → ImageObject
object_at image at = unwrap_or (find (is_held at) image.objects) no_object

-- the line of a report for a granule
abbrev pub word_line : ImageParts → ℕ → List ℕ
word_line image granule = cap_line (object_at image granule) granule

-- the lines of some granules
unfoldable pub word_lines : ImageParts → List ℕ → List ℕ
word_lines image granules = flat_map (word_line image) granules
