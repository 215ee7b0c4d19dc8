-- Laws of the pairs that are wanted, and of what memory holds once pairs are stored whose slots lie in it.
use Rattle.std.specs.Prelude.{◌≡◌, ◌⊎◌, ℕ, ◌+◌, ◌-◌, ◌^◌, ◌<◌, ◌≤◌, Bool, true, false, ◌&&◌, ◌==◌, All, Contains, List, [], length, filter, find, slice_index, Some, None, Ok, Err}
use Rattle.std.specs.List.{list_any}
use Rattle.cap_own.specs.Cap.{word_of_cap}
use Rattle.cap_mem.specs.IsMemory.{IsMemory}
use Rattle.cap_mem.specs.Tagged.{TaggedMemory, TaggedWord, is_of, is_tagged, tagged_word, list_of, stands_at, bytes_at, word_in, IsInside}
use Rattle.cap_own.specs.Cap.{Mapping}
use Rattle.cap_elf.specs.DynView.{DynRecords}
use Rattle.cap_fits.specs.Fits.{loaded_intervals}
use Rattle.cap_scope.specs.Chosen.{object_at}
use Rattle.cap_reloc.specs.declared.refusal.RelocRefusal.{RelocRefusal}
use Rattle.cap_reloc.specs.Binding.{IsUnrelocated, IsUnfitCause}
use Rattle.cap_reloc.specs.Sound.{IsPlaced}
use Rattle.cap_reloc.specs.Wanted.{Setting, Content, Number, Untagged, Tagged, Pair, wanted_pairs}
use Rattle.cap_reloc.specs.Noted.{IsNote, IsNoted}
use Rattle.cap_reloc.specs.Planned.{IsSlotIn, SlotsAreApart, IsNarrowedIn}
use Rattle.cap_reloc.specs.Stored.{content_bytes, has_byte, tagged_pairs, with_pairs}

abbrev pub is_capability : Content → Bool
is_capability (Number n) = false
is_capability (Untagged n) = false
is_capability (Tagged c note) = true

-- the pair holds a capability at this granule
abbrev pub has_capability_at : ℕ → Pair → Bool
has_capability_at granule p = is_capability p.content && p.slot == granule

-- a granule is tagged exactly where one of the pairs holds a capability
abbrev pub TagsAreOfPairs : Type 0
TagsAreOfPairs =
    (pairs : List Pair) (memory : TaggedMemory) (granule : ℕ) → All (IsSlotIn memory) pairs → is_tagged (with_pairs pairs memory) granule ≡ list_any (has_capability_at granule) pairs

-- a granule has the capability and the note of the pair whose slot it is
abbrev pub WordsAreOfPairs : Type 0
WordsAreOfPairs =
    (pairs : List Pair) (memory : TaggedMemory) (granule : ℕ) → All (IsSlotIn memory) pairs → SlotsAreApart pairs → tagged_word (with_pairs pairs memory) granule ≡ find (stands_at granule) (tagged_pairs pairs)

-- the granule is tagged with the capability, if it is one
abbrev pub IsTaggedWith : TaggedMemory → ℕ → Content → Type 0
IsTaggedWith memory slot (Number n) = Unit {0}
IsTaggedWith memory slot (Untagged n) = Unit {0}
IsTaggedWith memory slot (Tagged c note) = tagged_word memory slot ≡ Some (record { granule = slot; cap = c; note = note })

-- the slot of each pair that holds a capability is tagged with it
abbrev pub CapabilitiesStand : Type 0
CapabilitiesStand =
    (pairs : List Pair) (memory : TaggedMemory) → All (IsSlotIn memory) pairs → SlotsAreApart pairs → All (λ p. IsTaggedWith (with_pairs pairs memory) p.slot p.content) pairs

-- the bytes of a tagged granule are the word of its capability
abbrev pub BytesAreWords : Type 0
BytesAreWords =
    (memory : TaggedMemory) (granule : ℕ) (w : TaggedWord) → IsMemory memory → tagged_word memory granule ≡ Some w → word_in memory.bytes (granule - memory.base) ≡ word_of_cap w.cap

-- the list of an owner is the pairs that hold its capabilities, in order
abbrev pub ListsAreOfPairs : Type 0
ListsAreOfPairs =
    (pairs : List Pair) (memory : TaggedMemory) (owner : ℕ) → owner < 256 → list_of (with_pairs pairs memory) owner ≡ filter (is_of owner) (tagged_pairs pairs)

-- a slot holds what its pair says
abbrev pub SlotsAreFilled : Type 0
SlotsAreFilled =
    (pairs : List Pair) (memory : TaggedMemory) → All (IsSlotIn memory) pairs → SlotsAreApart pairs → All (λ p. bytes_at (with_pairs pairs memory) p.slot (length (content_bytes p.content)) ≡ content_bytes p.content) pairs

-- a byte that is in no slot is as it was
abbrev pub OthersStay : Type 0
OthersStay =
    (pairs : List Pair) (memory : TaggedMemory) (at : ℕ) → IsInside memory at 1 → find (has_byte at) pairs ≡ None → slice_index (with_pairs pairs memory).bytes (at - memory.base) ≡ slice_index memory.bytes (at - memory.base)

-- there are as many bytes as there were
abbrev pub SizeStays : Type 0
SizeStays =
    (pairs : List Pair) (memory : TaggedMemory) → length (with_pairs pairs memory).bytes ≡ length memory.bytes

-- memory without a tag stays a sound memory, where the slots lie in it and apart, and each capability was granted by a
-- mapping that ends at 2 ^ 62 at most
abbrev pub StoredIsSound : Type 0
StoredIsSound =
    (roots : List Mapping) (pairs : List Pair) (memory : TaggedMemory) → All (λ root. root.base + root.len ≤ 2 ^ 62) roots → IsMemory memory → memory.words ≡ [] → All (IsSlotIn memory) pairs → SlotsAreApart pairs → All (λ p. IsNarrowedIn roots p.content) pairs → IsMemory (with_pairs pairs memory)

-- each tagged word has the note of its pair: a symbol of the object that owns its capability
abbrev pub StoredIsNoted : Type 0
StoredIsNoted =
    (objects : List DynRecords) (pairs : List Pair) (memory : TaggedMemory) → All (λ p. IsNoted objects p.content) pairs → All (λ w. IsNote objects w.cap w.note) (with_pairs pairs memory).words

-- each capability that is wanted was narrowed from the mapping of its owner, with exact bounds
abbrev pub WantedIsNarrowed : Type 0
WantedIsNarrowed =
    (roots : List Mapping) (setting : Setting) (pairs : List Pair) → IsPlaced roots setting → wanted_pairs setting ≡ Ok pairs → All (λ p. IsNarrowedIn roots p.content) pairs

-- the slots that are wanted share no byte
abbrev pub WantedIsApart : Type 0
WantedIsApart =
    (roots : List Mapping) (setting : Setting) (pairs : List Pair) → IsPlaced roots setting → wanted_pairs setting ≡ Ok pairs → SlotsAreApart pairs

-- the slots that are wanted lie in the memory of the relocated object
abbrev pub WantedIsInside : Type 0
WantedIsInside =
    (roots : List Mapping) (setting : Setting) (pairs : List Pair) (memory : TaggedMemory) → IsPlaced roots setting → wanted_pairs setting ≡ Ok pairs → IsUnrelocated roots setting.index memory → All (IsSlotIn memory) pairs

-- bounds are refused only of an object that doesn't fit
abbrev pub RefusedIsUnfit : Type 0
RefusedIsUnfit =
    (roots : List Mapping) (setting : Setting) (refusal : RelocRefusal) → IsPlaced roots setting → wanted_pairs setting ≡ Err refusal → IsUnfitCause setting refusal

-- the capability is a sentry, or its bounds are an interval of data of the object that owns it
abbrev pub IsOfData : Setting → Content → Type 0
IsOfData setting (Number n) = Unit {0}
IsOfData setting (Untagged n) = Unit {0}
IsOfData setting (Tagged c note) =
    (c.sealed ≡ true) ⊎ Contains (loaded_intervals (object_at setting.objects c.owner) (slice_index setting.bases c.owner)) (c.base, c.len)

-- each capability that is wanted and not sealed has the bounds of data
abbrev pub WantedIsData : Type 0
WantedIsData =
    (roots : List Mapping) (setting : Setting) (pairs : List Pair) → IsPlaced roots setting → wanted_pairs setting ≡ Ok pairs → All (λ p. IsOfData setting p.content) pairs

-- each capability that is wanted comes with a symbol of the object that owns it
abbrev pub WantedIsNoted : Type 0
WantedIsNoted =
    (roots : List Mapping) (setting : Setting) (pairs : List Pair) → IsPlaced roots setting → wanted_pairs setting ≡ Ok pairs → All (λ p. IsNoted setting.objects p.content) pairs
