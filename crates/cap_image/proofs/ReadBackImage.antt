-- An image is read back.
use Rattle.std.proofs.Common.{◌≡◌, ℕ, List, [], ◌++◌, length, drop, Ok, refl, sym, ap, ◌∙◌, append-nil, append_assoc}
use Rattle.std.specs.Prelude.{flat_map}
use Rattle.std.proofs.lemmas.Bool.{le-ltb}
use Rattle.cap_image.specs.Parts.{ImageParts, IsImage}
use Rattle.cap_image.specs.Header.{header_of}
use Rattle.cap_image.specs.Records.{no_records}
use Rattle.cap_image.specs.Bodies.{bodies_of}
use Rattle.cap_image.specs.Reading.{read_image}
use Rattle.cap_image.specs.Writing.{header_bytes, object_bytes, body_bytes, image_bytes}
use Rattle.cap_image.specs.ReadBack.{ImagesAreReadBack}
use Rattle.cap_image.proofs.ReadBackPlaces.{ends}
use Rattle.cap_image.proofs.ReadBackRecords.{header_read, behind_header, all_read as records_read}
use Rattle.cap_image.proofs.ReadBackBodies.{all_read as bodies_read}

shape : (parts : ImageParts) → image_bytes parts ≡ header_bytes parts.version (length parts.objects) ++ (flat_map object_bytes parts.objects ++ flat_map (body_bytes parts.version) parts.objects)
unfolding image_bytes
shape parts = append_assoc (header_bytes parts.version (length parts.objects)) (flat_map object_bytes parts.objects) (flat_map (body_bytes parts.version) parts.objects)

module _ (parts : ImageParts) (is : IsImage parts) (bytes : List ℕ) (e : bytes ≡ header_bytes parts.version (length parts.objects) ++ (flat_map object_bytes parts.objects ++ flat_map (body_bytes parts.version) parts.objects)) where
  read : read_image bytes ≡ Ok parts
  unfolding read_image
  read =
      let version = parts.version in
      let os = parts.objects in
      let records_bytes = flat_map object_bytes os in
      let bodies_bytes = flat_map (body_bytes version) os in
      let header : header_of bytes ≡ Ok (record { version = version; count = length os }) = ap header_of e ∙ header_read version (length os) (records_bytes ++ bodies_bytes) is.few in
      let rs = records_read bytes os no_records bodies_bytes is.objects is.ascending (ap (drop 16) e ∙ behind_header version (length os) (records_bytes ++ bodies_bytes)) in
      let bs = bodies_read bytes version (length os) is.few os 16 (record { items = []; at = rs.records.at }) [] is.objects is.words rs.names (rs.next ∙ sym (append-nil bodies_bytes)) in
      let bodies : bodies_of version bytes (length os) rs.records.items rs.records.at ≡ Ok bs.bodies = ap (λ items. bodies_of version bytes (length os) items rs.records.at) rs.items ∙ bs.is in
      rw (header, rs.is, bodies, le-ltb bs.bodies.at (length bytes) (ends bytes bs.bodies.at bs.next), bs.objects) refl

pub read_back : ImagesAreReadBack
read_back parts is = read parts is (image_bytes parts) (shape parts)
