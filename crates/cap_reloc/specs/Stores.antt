-- What the stores of pairs make of a memory, one after the other.
use Rattle.std.specs.Prelude.{ℕ, List, fold}
use Rattle.cap_mem.specs.Tagged.{TaggedMemory, with_bytes, with_cap}
use Rattle.cap_reloc.specs.Wanted.{Content, Number, Untagged, Tagged, Pair}
use Rattle.cap_reloc.specs.Stored.{content_bytes}

abbrev pub with_content : TaggedMemory → ℕ → Content → TaggedMemory
with_content memory slot (Number n) = with_bytes memory slot (content_bytes (Number n))
with_content memory slot (Untagged n) = with_bytes memory slot (content_bytes (Untagged n))
with_content memory slot (Tagged c note) = with_cap memory slot c note

abbrev pub with_pair : TaggedMemory → Pair → TaggedMemory
with_pair memory p = with_content memory p.slot p.content

abbrev pub with_each : List Pair → TaggedMemory → TaggedMemory
with_each pairs memory = fold with_pair memory pairs
