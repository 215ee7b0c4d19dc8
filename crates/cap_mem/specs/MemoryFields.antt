-- Tagged memory as contracts see it, and what holds of its tables.
use Rattle.std.specs.Prelude.{◌≡◌, ℕ, ◌+◌, ◌*◌, ◌%◌, ◌<◌, ◌≤◌, ◌^◌, true, false, List, ◌∷◌, length, slice_index}
use Rattle.cap_mem.specs.declared.memory.Memory.TheInside.{Inside}
use Rattle.cap_mem.specs.Tagged.{TaggedMemory}
use Rattle.cap_own.specs.Cap.{Cap}
use Rattle.cap_mem.specs.Held.{cap_in, words_of, Owned, AreCaps}
use Rattle.cap_mem.specs.Bit.{bit_in}
use Rattle.cap_mem.specs.Chain.{has, IsApart}

-- the owner and the note of a granule, where it is tagged
abbrev pub owners_of : Inside → ℕ → ℕ
owners_of m g = slice_index m.owners.items g

abbrev pub notes_of : Inside → ℕ → ℕ
notes_of m g = slice_index m.notes.items g

-- the capability at a granule, where it is tagged
abbrev pub caps_of : Inside → ℕ → Cap
caps_of m g = cap_in m.bytes.items (16 * g) (owners_of m g)

-- the value of the tables: the words in the order of the chain
abbrev pub memory_of : Inside → TaggedMemory
memory_of m = record {
  base = m.base;
  bytes = m.bytes.items;
  words = words_of m.base m.links.size (caps_of m) (notes_of m) m.links.chain;
}

-- the tables are those of one memory
pub record AreTables (m : Inside) : Type 0 where
  pub aligned : m.base % 16 ≡ 0
  pub bytes_len : length m.bytes.items ≡ 16 * m.links.size
  pub end : m.base + 16 * m.links.size ≤ 2 ^ 62
  pub small : m.links.size + 257 ≤ 2 ^ 32
  pub tags_from : m.links.size < 64 * length m.tags.items
  pub tags_to : length m.tags.items < 2 ^ 58
  pub owners_len : length m.owners.items ≡ m.links.size
  pub notes_len : length m.notes.items ≡ m.links.size
  pub tagged : (g : ℕ) → g < m.links.size → bit_in m.tags.items g ≡ has g m.links.chain
  pub none_past : (g : ℕ) → m.links.size ≤ g → bit_in m.tags.items g ≡ false
  pub rest : List ℕ
  pub starts : m.links.chain ≡ m.links.size ∷ rest
  pub apart : IsApart m.links.chain
  pub marks : (k : ℕ) → k < 256 → has (m.links.size + k + 1) rest ≡ true
  pub owners_low : (g : ℕ) → slice_index m.owners.items g < 256
  pub owned : Owned m.links.size (owners_of m) 0 rest
  pub caps : AreCaps m.bytes.items (owners_of m) m.links.size m.links.chain
