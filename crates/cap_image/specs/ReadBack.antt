-- Laws of reading: an image that is written is read back, and the image of memories is an image.
use Rattle.std.specs.Prelude.{◌≡◌, ℕ, ◌%◌, ◌<◌, Bool, IsTrue, List, length, All, Ok}
use Rattle.cap_base.specs.Text.{is_plain}
use Rattle.cap_mem.specs.Ascending.{Ascend}
use Rattle.cap_mem.specs.IsMemory.{IsMemory}
use Rattle.cap_mem.specs.Tagged.{TaggedMemory}
use Rattle.cap_image.specs.Parts.{ImageParts, IsImage, space_start, space_end}
use Rattle.cap_image.specs.Accepted.{IsReadObject}
use Rattle.cap_image.specs.Reading.{read_image}
use Rattle.cap_image.specs.Writing.{image_of, image_bytes, CanBeWritten}

-- the bytes of an image, of either version, are read as exactly this image
abbrev pub ImagesAreReadBack : Type 0
ImagesAreReadBack = (parts : ImageParts) → IsImage parts → read_image (image_bytes parts) ≡ Ok parts

-- a memory begins at a page and has at least one byte, and its words are those of a tagged memory
pub record IsMapped (memory : TaggedMemory) : Type 0 where
  pub base_in_pages : memory.base % 4096 ≡ 0
  pub some_bytes : 0 < length memory.bytes
  pub sound : IsMemory memory

-- names of printable characters alone
abbrev pub ArePlain : List (List ℕ × Bool) → Type 0
ArePlain names = All (λ name. IsTrue (is_plain name.0)) names

-- what a reader accepts beyond what the format has room for: memories that are mapped, one behind another, where objects
-- may be mapped; and names of objects and of symbols that are printable
pub record CanBeRead (names : List (List ℕ × Bool)) (symbols : List (List (List ℕ × Bool))) (memories : List TaggedMemory) : Type 0 where
  pub can_be_written : CanBeWritten names symbols memories
  pub mapped : All IsMapped memories
  pub ascending : Ascend space_start memories space_end
  pub object_names : ArePlain names
  pub symbol_names : All ArePlain symbols

-- the image of memories that can be read is an image
abbrev pub MemoriesAreImages : Type 0
MemoriesAreImages =
    (names : List (List ℕ × Bool)) (symbols : List (List (List ℕ × Bool))) (memories : List TaggedMemory)
    → CanBeRead names symbols memories
    → IsImage (image_of names symbols memories)

-- and its objects are as those of a file that was read
abbrev pub MemoriesAreRead : Type 0
MemoriesAreRead =
    (names : List (List ℕ × Bool)) (symbols : List (List (List ℕ × Bool))) (memories : List TaggedMemory)
    → CanBeRead names symbols memories
    → All IsReadObject (image_of names symbols memories).objects
