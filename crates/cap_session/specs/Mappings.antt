-- Names, and the addresses of loaded objects.
use Rattle.std.specs.Prelude.{◌≡◌, ℕ, ◌%◌, ◌<◌, List, [], ◌∷◌, length}
use Rattle.cap_own.specs.Interval.{Interval, interval}
use Rattle.cap_own.specs.Cap.{Mapping}
use Rattle.cap_elf.specs.DynView.{DynRecords}
use Rattle.cap_elf.specs.IsRead.{IsShort}
use Rattle.cap_mem.specs.Tagged.{TaggedMemory}

-- a name of 1 to 255 printable characters
abbrev pub IsName : List ℕ → Type 0
IsName text = (0 < length text) × IsShort text

-- a pad and a mapping for each object, in order
abbrev pub spans_of : List Interval → List Mapping → List Interval
spans_of [] roots = []
spans_of (pad ∷ pads) [] = []
spans_of (pad ∷ pads) (root ∷ roots) = pad ∷ interval root.base root.len ∷ spans_of pads roots

-- a memory is that of a mapping
abbrev pub IsMemoryOf : Mapping → TaggedMemory → Type 0
IsMemoryOf root m = (m.base ≡ root.base) × (length m.bytes ≡ root.len)

-- a mapping has the size and the alignment of an object
pub record IsMappingOf (object : DynRecords) (root : Mapping) : Type 0 where
  pub size : root.len ≡ object.span
  pub positive : 0 < root.len
  pub aligned : root.base % object.align ≡ 0
