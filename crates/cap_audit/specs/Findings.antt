-- Where an image isn't the wanted one.
use Rattle.std.specs.Prelude.{ℕ, ◌+◌, ◌*◌, ◌/◌, max, Bool, true, false, ◌&&◌, ◌||◌, ◌==◌, bytes_eq, List, [], ◌∷◌, ◌++◌, length, flat_map, filter_map, slice_get, slice_index_or, Option, Some, None, if◌then◌else◌}
use Rattle.std.specs.List.{list_any, range_with_len}
use lib.Pointwise.{pointwise}
use Rattle.cap_image.specs.Parts.{WordRecord, ImageObject, ImageParts, no_object, has_tag}
use Rattle.cap_image.specs.Records.{piece}
use Rattle.cap_image.specs.Report.{word_of}
use Rattle.cap_image.specs.Writing.{version_number}
use Rattle.cap_audit.specs.declared.finding.Finding.{Finding}
use Rattle.cap_audit.specs.declared.finding.What.{What}
use Rattle.cap_audit.specs.declared.finding.What.TheVariants.{Version, Object, Tag, Word, Bytes, Owner, Order}

-- the images have different versions, a number at offset 8 of the file
abbrev pub version_findings : ImageParts → ImageParts → List Finding
version_findings image wanted =
    if version_number image.version == version_number wanted.version then [] else record { what = Version; object = 0; at = 8 } ∷ []

-- two objects have one base, one size and one name
abbrev pub have_same_head : ImageObject → ImageObject → Bool
have_same_head a b = a.base == b.base && length a.bytes == length b.bytes && bytes_eq a.name b.name

-- both images have the object, and it is the same
abbrev pub is_same_object : Option ImageObject → Option ImageObject → Bool
is_same_object (Some a) (Some b) = have_same_head a b
is_same_object (Some a) None = false
is_same_object None b = false

-- the finding of the object of this number
abbrev pub object_finding : ImageParts → ImageParts → ℕ → Option Finding
object_finding image wanted k =
    if is_same_object (slice_get image.objects k) (slice_get wanted.objects k) then None else Some (record { what = Object; object = k; at = 0 })

-- the findings of the first n objects
unfoldable pub objects_below : ImageParts → ImageParts → ℕ → List Finding
objects_below image wanted n = filter_map (object_finding image wanted) (range_with_len 0 n)

-- the findings of the version and of the objects
abbrev pub head_findings : ImageParts → ImageParts → List Finding
head_findings image wanted =
    version_findings image wanted ++ objects_below image wanted (max (length image.objects) (length wanted.objects))

-- the tag, the 16 bytes and the word record of granule n of an object
abbrev pub tag_of : ImageObject → ℕ → Bool
tag_of o n = has_tag o.tags (16 * n)

abbrev pub bytes_of : ImageObject → ℕ → List ℕ
bytes_of o n = piece o.bytes (16 * n) 16

abbrev pub record_of : ImageObject → ℕ → Option WordRecord
record_of o n = word_of o (o.base + 16 * n)

-- two words are made from the symbol of one name in one object
abbrev pub is_same_source : Option WordRecord → Option WordRecord → Bool
is_same_source (Some v) (Some w) = v.owner == w.owner && bytes_eq v.name w.name
is_same_source (Some v) None = false
is_same_source None (Some w) = false
is_same_source None None = true

-- what differs at a granule, by its tags in the two images, and by whether its bytes and its word's source are the same
abbrev pub what_differs : Bool → Bool → Bool → Bool → Option What
what_differs true false same_bytes same_source = Some Tag
what_differs false true same_bytes same_source = Some Tag
what_differs true true false same_source = Some Word
what_differs false false false same_source = Some Bytes
what_differs true true true false = Some Owner
what_differs true true true true = None
what_differs false false true same_source = None

-- what differs at granule n of an object
unfoldable pub difference_at : ImageObject → ImageObject → ℕ → Option What
difference_at a b n =
    what_differs (tag_of a n) (tag_of b n) (bytes_eq (bytes_of a n) (bytes_of b n)) (is_same_source (record_of a n) (record_of b n))

-- a difference of object k at this address
abbrev pub finding_at : ℕ → ℕ → Option What → Option Finding
finding_at k at None = None
finding_at k at (Some what) = Some (record { what = what; object = k; at = at })

-- the finding of granule n of object k
abbrev pub granule_finding : ℕ → ImageObject → ImageObject → ℕ → Option Finding
granule_finding k a b n = finding_at k (a.base + 16 * n) (difference_at a b n)

-- the findings of the first n granules of object k
unfoldable pub findings_below : ℕ → ImageObject → ImageObject → ℕ → List Finding
findings_below k a b n = filter_map (granule_finding k a b) (range_with_len 0 n)

-- the findings of all its granules, in ascending order
abbrev pub granule_findings : ℕ → ImageObject → ImageObject → List Finding
granule_findings k a b = findings_below k a b (length a.bytes / 16)

-- this difference is one of word records too: a granule that has none, or another
abbrev pub tells_of_records : What → Bool
tells_of_records Tag = true
tells_of_records Owner = true
tells_of_records Version = false
tells_of_records Object = false
tells_of_records Word = false
tells_of_records Bytes = false
tells_of_records Order = false

abbrev pub is_same_record : WordRecord → WordRecord → Bool
is_same_record v w = v.granule == w.granule && v.owner == w.owner && bytes_eq v.name w.name

-- two objects have the same word records in the same order
unfoldable pub have_same_records : ImageObject → ImageObject → Bool
have_same_records a b = pointwise is_same_record a.words b.words

-- the findings tell of word records
unfoldable pub tell_of_records : List Finding → Bool
tell_of_records found = list_any (λ f. tells_of_records f.what) found

-- the finding of object k, that its lists of word records differ and no finding of a granule tells why
abbrev pub order_finding : ℕ → ImageObject → ImageObject → Option Finding
order_finding k a b =
    if tell_of_records (granule_findings k a b) || have_same_records a b then None else Some (record { what = Order; object = k; at = a.base })

abbrev pub object_at : ImageParts → ℕ → ImageObject
object_at image k = slice_index_or image.objects k no_object

-- the findings of the granules and of the orders of the first n objects
unfoldable pub granules_below : ImageParts → ImageParts → ℕ → List Finding
granules_below image wanted n = flat_map (λ k. granule_findings k (object_at image k) (object_at wanted k)) (range_with_len 0 n)

unfoldable pub orders_below : ImageParts → ImageParts → ℕ → List Finding
orders_below image wanted n = filter_map (λ k. order_finding k (object_at image k) (object_at wanted k)) (range_with_len 0 n)

-- the findings of the same objects in two images: of the granules, and then of the orders
abbrev pub body_findings : ImageParts → ImageParts → List Finding
body_findings image wanted = granules_below image wanted (length image.objects) ++ orders_below image wanted (length image.objects)

-- the first list, or the second where the first is empty
abbrev pub or_else : List Finding → List Finding → List Finding
or_else [] rest = rest
or_else (f ∷ found) rest = f ∷ found

-- all findings: where the version or an object differs, these alone
unfoldable pub findings : ImageParts → ImageParts → List Finding
findings image wanted = or_else (head_findings image wanted) (body_findings image wanted)
