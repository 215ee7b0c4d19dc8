-- What an accepted file is: the bytes of its parts, and nothing else.
use Rattle.std.specs.Prelude.{◌≡◌, ℕ, ◌+◌, ◌<◌, ◌≤◌, List, length, slice_index, All, Ok}
use Rattle.cap_base.specs.Field.{number_at}
use Rattle.cap_image.specs.Parts.{ImageObject, ImageParts, IsObject}
use Rattle.cap_image.specs.Records.{piece}
use Rattle.cap_image.specs.Reading.{read_image}
use Rattle.cap_image.specs.Writing.{image_bytes}

-- each number is a byte
abbrev pub AreBytes : List ℕ → Type 0
AreBytes bytes = (i : ℕ) → slice_index bytes i < 256

-- two little-endian fields of one width that hold one number have the same bytes
abbrev pub FieldsAreNumbers : Type 0
FieldsAreNumbers =
    (bytes others : List ℕ) (at other n : ℕ)
    → AreBytes bytes
    → AreBytes others
    → at + n ≤ length bytes
    → other + n ≤ length others
    → number_at n bytes at ≡ number_at n others other
    → piece bytes at n ≡ piece others other n

-- an accepted file has the bytes that are written of its parts
abbrev pub AcceptedIsWritten : Type 0
AcceptedIsWritten = (bytes : List ℕ) (image : ImageParts) → AreBytes bytes → read_image bytes ≡ Ok image → bytes ≡ image_bytes image

-- an object that was read from bytes
pub record IsReadObject (o : ImageObject) : Type 0 where
  pub object : IsObject o
  pub tags : AreBytes o.tags

-- each object of an accepted file is one
abbrev pub AcceptedHasObjects : Type 0
AcceptedHasObjects = (bytes : List ℕ) (image : ImageParts) → AreBytes bytes → read_image bytes ≡ Ok image → All IsReadObject image.objects
