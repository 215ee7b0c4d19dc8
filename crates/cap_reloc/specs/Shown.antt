-- What memory shows of what the relocations of its object mean.
use Rattle.std.specs.Prelude.{◌≡◌, ℕ, ◌+◌, ◌^◌, ◌<◌, ◌≤◌, Bool, false, ◌&&◌, ◌==◌, true, All, List, drop, length, take, MatchOption, is_some, Ok, slice_index}
use Rattle.std.specs.List.{list_any}
use Rattle.cap_conc.specs.declared.word.Word.{Word}
use Rattle.cap_own.specs.Cap.{Cap, Mapping, IsGrant, StandsFor}
use Rattle.cap_mem.specs.IsMemory.{IsMemory}
use Rattle.cap_mem.specs.Tagged.{TaggedMemory, is_tagged, word_in}
use Rattle.cap_scope.specs.Chosen.{object_at}
use Rattle.cap_reloc.specs.Binding.{IsUnrelocated}
use Rattle.cap_reloc.specs.Meant.{has_slot, named_cap, named_number, number_content}
use Rattle.cap_reloc.specs.Sound.{IsPlaced}
use Rattle.cap_reloc.specs.Stored.{content_bytes, with_pairs}
use Rattle.cap_reloc.specs.Wanted.{Setting, Relocation, Pair, own, bias, relocations_of, slot_of, touches, wanted_pairs}

-- the mapping of an object
abbrev pub mapping_in : Setting → ℕ → Mapping
mapping_in s n = record { base = slice_index s.bases n; len = (object_at s.objects n).span; owner = n }

-- a relocation names a capability for the granule at an offset of its object
abbrev pub names_at : Setting → ℕ → Relocation → Bool
names_at s at r = is_some (named_cap s r) && (slot_of r).0 == at

-- by the standard's decoding a word has what the capability says, and that was narrowed from the mapping of the object in
-- which its definition stands
pub record IsWordOf (s : Setting) (w : Word) (c : Cap) : Type 0 where
  pub stands : StandsFor w c
  pub narrowed : IsGrant (record { root = mapping_in s c.owner; cap = c })

-- the slot of a relocation has a word of the capability that it names; or else its number, and zeros up to 16 bytes
abbrev pub HoldsMeant : Setting → List ℕ → Relocation → Type 0
HoldsMeant s bytes r =
    let slot = slot_of r in
    MatchOption (named_cap s r) (take slot.1 (drop slot.0 bytes) ≡ content_bytes (number_content slot.1 (named_number s r))) (λ c. IsWordOf s (word_in bytes slot.0) c)

-- the bytes and tags of an object that had these bytes before it was relocated: a granule is tagged exactly where a
-- relocation names a capability for it; each slot holds what its relocation means; and all other bytes are as they were
pub record ShowsMeant (s : Setting) (before bytes : List ℕ) (is_tagged_at : ℕ → Bool) : Type 0 where
  pub size : length bytes ≡ length before
  pub tags : (at : ℕ) → is_tagged_at at ≡ list_any (names_at s at) (relocations_of (own s))
  pub slots : All (λ r. has_slot r ≡ true → HoldsMeant s bytes r) (relocations_of (own s))
  pub others : (at : ℕ) → at < length bytes → touches (at, 1) (relocations_of (own s)) ≡ false → slice_index bytes at ≡ slice_index before at

-- so does memory in which the pairs of its object are stored, where the mappings end at 2 ^ 62 at most
abbrev pub StoredIsMeant : Type 0
StoredIsMeant =
    (roots : List Mapping) (setting : Setting) (pairs : List Pair) (memory : TaggedMemory) → All (λ root. root.base + root.len ≤ 2 ^ 62) roots → IsPlaced roots setting → IsMemory memory → IsUnrelocated roots setting.index memory
    → wanted_pairs setting ≡ Ok pairs → ShowsMeant setting memory.bytes (with_pairs pairs memory).bytes (λ at. is_tagged (with_pairs pairs memory) (bias setting + at))
