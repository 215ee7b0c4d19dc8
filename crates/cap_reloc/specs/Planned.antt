-- A planned slot as contracts see it, and what is known of it before it is stored.
use Rattle.std.specs.Prelude.{◌≡◌, ℕ, ◌%◌, ◌<◌, false, List, length, AllPairs, IsSomeAnd, slice_get}
use Rattle.cap_base.specs.Lists.{share_byte}
use Rattle.cap_own.specs.Cap.{Mapping, IsGrant}
use Rattle.cap_mem.specs.Tagged.{TaggedMemory, IsInside}
use Rattle.cap_reloc.specs.declared.planned.Held.{Held}
use Rattle.cap_reloc.specs.declared.planned.Held.TheVariants as held
use Rattle.cap_reloc.specs.declared.planned.Planned.TheInside.{Inside}
use Rattle.cap_reloc.specs.Wanted.{Pair, Content, Number, Untagged, Tagged}
use Rattle.cap_reloc.specs.Stored.{content_bytes}

abbrev pub content_of : Held → Content
content_of (held.Number n) = Number n
content_of (held.Untagged n) = Untagged n
content_of (held.Tagged cap note) = Tagged cap.cap note

abbrev pub pair_of : Inside → Pair
pair_of p = record { slot = p.slot; content = content_of p.held }

-- the interval of a slot: its place and its length
abbrev pub interval_of : Pair → ℕ × ℕ
interval_of p = (p.slot, length (content_bytes p.content))

-- a capability is for a granule, and its owner is one of 256
abbrev pub FitsGranule : ℕ → Content → Type 0
FitsGranule slot (Number n) = Unit {0}
FitsGranule slot (Untagged n) = Unit {0}
FitsGranule slot (Tagged c note) = (slot % 16 ≡ 0) × (c.owner < 256)

-- the slot lies in the memory
pub record IsSlotIn (memory : TaggedMemory) (p : Pair) : Type 0 where
  pub inside : IsInside memory p.slot (length (content_bytes p.content))
  pub granule : FitsGranule p.slot p.content

-- no two slots share a byte
abbrev pub SlotsAreApart : List Pair → Type 0
SlotsAreApart pairs = AllPairs (λ p q. share_byte (interval_of p) (interval_of q) ≡ false) pairs

-- a capability was narrowed from the mapping of its owner, and its bounds are exact
abbrev pub IsNarrowedIn : List Mapping → Content → Type 0
IsNarrowedIn roots (Number n) = Unit {0}
IsNarrowedIn roots (Untagged n) = Unit {0}
IsNarrowedIn roots (Tagged c note) = IsSomeAnd (slice_get roots c.owner) (λ root. IsGrant (record { root = root; cap = c }))
