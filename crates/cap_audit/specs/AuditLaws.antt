-- What no findings say.
use Rattle.std.specs.Prelude.{◌≡◌, ◌↔◌, ℕ, List, [], All, Ok}
use Rattle.cap_image.specs.Parts.{ImageParts}
use Rattle.cap_image.specs.Reading.{read_image}
use Rattle.cap_image.specs.Accepted.{AreBytes, IsReadObject}
use Rattle.cap_image.specs.Writing.{image_bytes}
use Rattle.cap_audit.specs.Findings.{findings}

-- two images that were read from bytes have no findings exactly where the bytes are the same
abbrev pub NoneWhereSame : Type 0
NoneWhereSame =
    (bytes others : List ℕ) (image wanted : ImageParts)
    → AreBytes bytes
    → AreBytes others
    → read_image bytes ≡ Ok image
    → read_image others ≡ Ok wanted
    → (findings image wanted ≡ []) ↔ (bytes ≡ others)

-- an image that was read from bytes has no findings beside a wanted one, whose objects are as those of a file, exactly
-- where the bytes are those that are written of the wanted one
abbrev pub NoneWhereWritten : Type 0
NoneWhereWritten =
    (bytes : List ℕ) (image wanted : ImageParts)
    → AreBytes bytes
    → read_image bytes ≡ Ok image
    → read_image (image_bytes wanted) ≡ Ok wanted
    → All IsReadObject wanted.objects
    → (findings image wanted ≡ []) ↔ (bytes ≡ image_bytes wanted)
