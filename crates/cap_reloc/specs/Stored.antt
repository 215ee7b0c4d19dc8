-- What memory holds once the pairs of an object are stored.
use Rattle.std.specs.Prelude.{ℕ, Bool, ◌+◌, ◌-◌, ◌&&◌, nat_le, nat_lt, List, [], ◌∷◌, ◌++◌, length, filter_map, find, slice_index, Option, Some, None, option_map, unwrap_or}
use Rattle.cap_base.specs.Field.{number_bytes}
use Rattle.cap_own.specs.Cap.{word_of_cap}
use Rattle.cap_mem.specs.Tagged.{TaggedMemory, TaggedWord, by_owner, word_bytes}
use Rattle.cap_reloc.specs.Wanted.{Content, Number, Untagged, Tagged, Pair}

-- the bytes of a slot
abbrev pub content_bytes : Content → List ℕ
content_bytes (Number n) = number_bytes 8 n
content_bytes (Untagged n) = number_bytes 8 n ++ number_bytes 8 0
content_bytes (Tagged c note) = word_bytes (word_of_cap c)

abbrev pub has_byte : ℕ → Pair → Bool
has_byte at p = nat_le p.slot at && nat_lt at (p.slot + length (content_bytes p.content))

-- the byte that a pair puts at an address
abbrev pub byte_at : List Pair → ℕ → Option ℕ
byte_at pairs at = option_map (λ p. slice_index (content_bytes p.content) (at - p.slot)) (find (has_byte at) pairs)

-- the bytes from an address on: in the slots of the pairs those of the pairs, and elsewhere as they were
abbrev pub overlaid : List Pair → ℕ → List ℕ → List ℕ
overlaid pairs at [] = []
overlaid pairs at (byte ∷ bytes) = unwrap_or (byte_at pairs at) byte ∷ overlaid pairs (at + 1) bytes

abbrev pub tagged_in : ℕ → Content → Option TaggedWord
tagged_in slot (Number n) = None
tagged_in slot (Untagged n) = None
tagged_in slot (Tagged c note) = Some (record { granule = slot; cap = c; note = note })

-- the pairs that hold a capability, in order
abbrev pub tagged_pairs : List Pair → List TaggedWord
tagged_pairs pairs = filter_map (λ p. tagged_in p.slot p.content) pairs

-- memory that had no tag, with the pairs: their bytes in their slots, and their capabilities as its words
abbrev pub with_pairs : List Pair → TaggedMemory → TaggedMemory
with_pairs pairs memory = record memory {
  bytes = overlaid pairs memory.base memory.bytes;
  words = by_owner (tagged_pairs pairs);
}
