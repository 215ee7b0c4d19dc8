-- How many tagged granules the first objects have.
use Rattle.std.proofs.Common.{◌≡◌, ℕ, ◌+◌, ◌/◌, ◌<◌, ◌≤◌, length, ap, ◌∙◌, arith, take}
use Rattle.std.specs.Prelude.{flat_map, slice_index_or}
use Rattle.std.proofs.lemmas.List.{length-append}
use Rattle.cap_image.specs.Parts.{ImageObject, ImageParts, IsImage, IsObject, no_object, tagged_granules, space_end}
use Rattle.cap_image.specs.Words.{tag_count}
use Rattle.cap_image.proofs.TagCounts.{tags_counted}
use Rattle.cap_image.proofs.GranuleList.{few_in}
use Rattle.cap_image.proofs.Growing.{flat_map_more}

-- an object more
pub tally_more : (image : ImageParts) (i : ℕ) → IsImage image → i < length image.objects → length (flat_map tagged_granules (take i image.objects)) + tag_count (slice_index_or image.objects i no_object).tags ≡ length (flat_map tagged_granules (take (i + 1) image.objects))
tally_more image i is lt =
    let more : length (flat_map tagged_granules (take (i + 1) image.objects)) ≡ length (flat_map tagged_granules (take i image.objects)) + length (tagged_granules (slice_index_or image.objects i no_object)) = ap length (flat_map_more tagged_granules image.objects i no_object lt) ∙ length-append (flat_map tagged_granules (take i image.objects)) _ in
    let count : length (tagged_granules (slice_index_or image.objects i no_object)) ≡ tag_count (slice_index_or image.objects i no_object).tags = tags_counted (slice_index_or image.objects i no_object) (is.objects i no_object lt) in
    omega (arith, more, count)

-- an object has few
pub tally_few : (o : ImageObject) → IsObject o → tag_count o.tags ≤ 0x10000000
tally_few o is =
    let count : length (tagged_granules o) ≡ tag_count o.tags = tags_counted o is in
    let few : length (tagged_granules o) ≤ length o.bytes / 16 = few_in o in
    let within : o.base + length o.bytes ≤ space_end = is.within in
    omega (arith, count, few, within)
