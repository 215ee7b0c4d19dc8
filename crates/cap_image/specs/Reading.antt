-- Reading an image: the first check that it fails, or its parts.
use Rattle.std.specs.Prelude.{nat_lt, List, ℕ, length, map, Result, Ok}
use Rattle.cap_base.specs.Steps.{◌>>=◌, ◌>>◌, refuse}
use Rattle.cap_base.specs.declared.check.Check.TheVariants.{ImageTail}
use Rattle.cap_base.specs.declared.refusal.Fault.{Fault}
use Rattle.cap_image.specs.declared.header.Version.{Version}
use Rattle.cap_image.specs.Parts.{ImageParts}
use Rattle.cap_image.specs.Header.{header_of}
use Rattle.cap_image.specs.Records.{records_of}
use Rattle.cap_image.specs.Bodies.{BodyParts, object_in, bodies_of}

abbrev pub parts_in : List ℕ → Version → List BodyParts → ImageParts
parts_in bytes version bodies = record { version = version; objects = map (object_in bytes) bodies }

-- the parts of an image, or the first check that it fails: those of the header, of each record in turn, of each body
-- in turn, and that nothing follows
unfoldable pub read_image : List ℕ → Result ImageParts Fault
read_image bytes = do
  header ← header_of bytes
  records ← records_of bytes header.count
  bodies ← bodies_of header.version bytes header.count records.items records.at
  refuse (nat_lt bodies.at (length bytes)) ImageTail bodies.at
  Ok (parts_in bytes header.version bodies.items)
