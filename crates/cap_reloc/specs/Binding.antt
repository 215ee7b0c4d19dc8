-- How relocating ends.
use Rattle.std.specs.Prelude.{◌<◌, ◌≡◌, ℕ, ◌+◌, ◌%◌, ⊤, List, [], ◌∷◌, length, All, Some, None, IfErr, IsSomeAnd, Result, Ok, Err, slice_get}
use Rattle.cap_own.specs.Cap.{Mapping, Narrowed}
use Rattle.cap_elf.specs.DynView.{DynRecords}
use Rattle.cap_fits.specs.Fits.{Fits}
use Rattle.cap_mem.specs.Tagged.{TaggedMemory}
use Rattle.cap_scope.specs.Chosen.{object_at}
use Rattle.cap_reloc.specs.declared.refusal.RelocRefusal.{RelocRefusal}
use Rattle.cap_reloc.specs.declared.refusal.RelocRefusal.TheVariants.{Malformed, Unsupported, Unresolved, Inexact, NoMemory}
use Rattle.cap_reloc.specs.Wanted.{Setting, Pair, wanted_pairs, own}
use Rattle.cap_reloc.specs.Stored.{with_pairs}

-- a mapping for each object, in order: of its size, at a multiple of its alignment, and with its number as the owner
pub record IsMapping (object : DynRecords) (number : ℕ) (root : Mapping) : Type 0 where
  pub size : root.len ≡ object.span
  pub aligned : root.base % object.align ≡ 0
  pub owner : root.owner ≡ number

abbrev pub AreMappings : List DynRecords → ℕ → List Mapping → Type 0
AreMappings [] number [] = ⊤
AreMappings [] number (root ∷ roots) = ⊥
AreMappings (object ∷ objects) number [] = ⊥
AreMappings (object ∷ objects) number (root ∷ roots) = IsMapping object number root × AreMappings objects (number + 1) roots

-- the memory is that of a mapping, and has no tag
abbrev pub IsUnrelocated : List Mapping → ℕ → TaggedMemory → Type 0
IsUnrelocated roots index memory =
    IsSomeAnd (slice_get roots index) (λ root. (memory.base ≡ root.base) × (length memory.bytes ≡ root.len) × (memory.words ≡ []))

-- a refusal is the first of the relocations in order, and nothing was stored
abbrev pub IsRefusedBy : {X : Type 0} → Result X RelocRefusal → RelocRefusal → Type 0
IsRefusedBy wanted (Malformed check at) = wanted ≡ Err (Malformed check at)
IsRefusedBy wanted (Unsupported check at) = wanted ≡ Err (Unsupported check at)
IsRefusedBy wanted (Unresolved symbol) = wanted ≡ Err (Unresolved symbol)
IsRefusedBy wanted (Inexact hit base len) = wanted ≡ Err (Inexact hit base len)
IsRefusedBy wanted NoMemory = Unit {0}

-- the pairs of the object were stored, and nothing else; or there is a refusal, and nothing was stored
abbrev pub Binds : {T : Type 0} → Setting → TaggedMemory → TaggedMemory → Result T RelocRefusal → Type 0
Binds setting old new (Ok _) = (pairs : List Pair) × (wanted_pairs setting ≡ Ok pairs) × (new ≡ with_pairs pairs old)
Binds setting old new (Err refusal) = IsRefusedBy (wanted_pairs setting) refusal × (new ≡ old)

-- each capability in the memory was narrowed from the mapping of its owner
abbrev pub AreNarrowed : List Mapping → TaggedMemory → Type 0
AreNarrowed roots memory = All (λ w. IsSomeAnd (slice_get roots w.cap.owner) (λ root. Narrowed root w.cap)) memory.words

-- the note of each tagged word is the index of a symbol of the object that the capability is for
abbrev pub AreNoted : List DynRecords → TaggedMemory → Type 0
AreNoted objects memory = All (λ w. w.note < length (object_at objects w.cap.owner).symbols) memory.words

-- bounds are refused only of an object that doesn't fit: the hit's, or for an entry the relocated object
abbrev pub IsUnfitCause : Setting → RelocRefusal → Type 0
IsUnfitCause setting (Malformed check at) = ⊤
IsUnfitCause setting (Unsupported check at) = ⊤
IsUnfitCause setting (Unresolved symbol) = ⊤
IsUnfitCause setting (Inexact (Some hit) base len) = Fits (object_at setting.objects hit.object) → ⊥
IsUnfitCause setting (Inexact None base len) = Fits (own setting) → ⊥
IsUnfitCause setting NoMemory = ⊤

abbrev pub IsUnfitBound : {T : Type 0} → Setting → Result T RelocRefusal → Type 0
IsUnfitBound setting result = IfErr result (IsUnfitCause setting)
