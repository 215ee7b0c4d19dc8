-- What holds of every tagged memory.
use Rattle.std.specs.Prelude.{◌≡◌, ◌≢◌, ◌+◌, ◌-◌, ◌%◌, ◌^◌, ◌<◌, ◌≤◌, All, AllPairs, length}
use Rattle.cap_own.specs.Cap.{Mapping, IsGrant, word_of_cap}
use Rattle.cap_mem.specs.Held.{cap_in}
use Rattle.cap_mem.specs.Tagged.{TaggedMemory, TaggedWord, word_in}

-- a word stands at a granule of the memory, its bytes are the word of its capability and decode to it, and the
-- capability was derived from a mapping
pub record IsHeld (memory : TaggedMemory) (w : TaggedWord) : Type 0 where
  pub aligned : w.granule % 16 ≡ 0
  pub from : memory.base ≤ w.granule
  pub to : w.granule + 16 ≤ memory.base + length memory.bytes
  pub owner : w.cap.owner < 256
  pub bytes_are : word_in memory.bytes (w.granule - memory.base) ≡ word_of_cap w.cap
  pub decodes : cap_in memory.bytes (w.granule - memory.base) w.cap.owner ≡ w.cap
  pub root : Mapping
  pub granted : IsGrant (record { root = root; cap = w.cap })

-- a memory begins at a granule and ends at 2 ^ 62 at most; no granule stands twice, and the owners ascend
pub record IsMemory (memory : TaggedMemory) : Type 0 where
  pub aligned : memory.base % 16 ≡ 0
  pub end : memory.base + length memory.bytes ≤ 2 ^ 62
  pub held : All (IsHeld memory) memory.words
  pub distinct : AllPairs (λ v w. v.granule ≢ w.granule) memory.words
  pub ascending : AllPairs (λ v w. v.cap.owner ≤ w.cap.owner) memory.words
