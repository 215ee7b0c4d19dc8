-- Memories of mappings, one of which is relocated.
use Rattle.std.proofs.Common.{◌≡◌, ℕ, suc, zero, ◌+◌, ◌<◌, ◌≤◌, List, [], ◌∷◌, ◌++◌, length, get_or, set, refl, ap, sym, ◌∙◌, subst, arith}
use Rattle.std.specs.Prelude.{Result, Ok, Err, map}
use Rattle.std.proofs.lemmas.List.{length-map, set-get_or, get_or-set_same}
use Rattle.std.specs.List.{AllZip}
use Rattle.cap_own.specs.Cap.{Mapping}
use Rattle.cap_scope.specs.declared.choice.Rule.{Rule}
use Rattle.cap_mem.specs.Tagged.{TaggedMemory}
use Rattle.cap_mem.specs.Ascending.{Ascend}
use Rattle.cap_reloc.specs.declared.refusal.RelocRefusal.{RelocRefusal}
use Rattle.cap_reloc.specs.Binding.{IsUnrelocated, Binds, AreNarrowed, AreNoted}
use Rattle.cap_reloc.specs.Stored.{overlaid, with_pairs}
use Rattle.cap_reloc.specs.Wanted.{Pair, Setting}
use Rattle.cap_session.specs.Binding.{no_memory, memory_at, with_memory, setting_with, objects_in, Rebinds, HasOwned}
use Rattle.cap_session.specs.Mappings.{IsMemoryOf, IsMappingOf}
use Rattle.cap_session.specs.Roster.{RosterValue, IsRoster, records_in}

pub overlaid-length : (pairs : List Pair) (at : ℕ) (bytes : List ℕ) → length (overlaid pairs at bytes) ≡ length bytes
overlaid-length pairs at [] = refl
overlaid-length pairs at (b ∷ bytes) = ap suc (overlaid-length pairs (at + 1) bytes)

-- a memory keeps its place and its length
pub binds-shape : {T : Type 0} (setting : Setting) (old new : TaggedMemory) (result : Result T RelocRefusal) → Binds setting old new result → (new.base ≡ old.base) × (length new.bytes ≡ length old.bytes)
binds-shape setting old new (Ok x) h =
    (ap (λ (m : TaggedMemory). m.base) h.2, ap (λ (m : TaggedMemory). length m.bytes) h.2 ∙ overlaid-length h.0 old.base old.bytes)
binds-shape setting old new (Err e) h = (ap (λ (m : TaggedMemory). m.base) h.1, ap (λ (m : TaggedMemory). length m.bytes) h.1)

pub zip-length : {A B : Type 0} (R : A → B → Type 0) (xs : List A) (ys : List B) → AllZip R xs ys → length xs ≡ length ys
zip-length R [] [] h = refl
zip-length R [] (y ∷ ys) h = absurd h
zip-length R (x ∷ xs) [] h = absurd h
zip-length R (x ∷ xs) (y ∷ ys) h = ap suc (zip-length R xs ys h.1)

pub memories-set : (roots : List Mapping) (memories : List TaggedMemory) (i : ℕ) (m : TaggedMemory) → AllZip IsMemoryOf roots memories
    → m.base ≡ (get_or memories i no_memory).base → length m.bytes ≡ length (get_or memories i no_memory).bytes → AllZip IsMemoryOf roots (set memories i m)
memories-set [] [] i m h b l = h
memories-set [] (y ∷ ys) i m h b l = absurd h
memories-set (r ∷ rs) [] i m h b l = absurd h
memories-set (r ∷ rs) (y ∷ ys) zero m h b l = ((b ∙ h.0.0, l ∙ h.0.1), h.1)
memories-set (r ∷ rs) (y ∷ ys) (suc i) m h b l = (h.0, memories-set rs ys i m h.1 b l)

pub ascend-set : (from : ℕ) (memories : List TaggedMemory) (i : ℕ) (m : TaggedMemory) (limit : ℕ) → Ascend from memories limit
    → m.base ≡ (get_or memories i no_memory).base → length m.bytes ≡ length (get_or memories i no_memory).bytes → Ascend from (set memories i m) limit
ascend-set from [] i m limit h b l = h
ascend-set from (y ∷ ys) zero m limit h b l = (rw b h.0, rw (b, l) h.1)
ascend-set from (y ∷ ys) (suc i) m limit h b l = (h.0, ascend-set (y.base + length y.bytes) ys i m limit h.1 b l)

pub unrelocated : (roots : List Mapping) (memories : List TaggedMemory) (i : ℕ) → AllZip IsMemoryOf roots memories → i < length memories
    → (get_or memories i no_memory).words ≡ [] → IsUnrelocated roots i (get_or memories i no_memory)
unrelocated [] [] i h lt w = absurd (omega arith)
unrelocated [] (y ∷ ys) i h lt w = absurd h
unrelocated (r ∷ rs) [] i h lt w = absurd h
unrelocated (r ∷ rs) (y ∷ ys) zero h lt w = (h.0.0, h.0.1, w)
unrelocated (r ∷ rs) (y ∷ ys) (suc i) h lt w = unrelocated rs ys i h.1 (let less : i < length ys = omega arith in less) w

pub IsRoster-with_memory : (r : RosterValue) (i : ℕ) (m : TaggedMemory) → IsRoster r → m.base ≡ (memory_at r i).base → length m.bytes ≡ length (memory_at r i).bytes → IsRoster (with_memory r i m)
IsRoster-with_memory r i m h b l = record {
  few = h.few;
  name_count = h.name_count;
  dep_count = h.dep_count;
  pad_count = h.pad_count;
  names_are = h.names_are;
  deps_answer = h.deps_answer;
  mappings = h.mappings;
  mappings_are = h.mappings_are;
  memories_are = memories-set r.roots r.memories i m h.memories_are b l;
  covered = h.covered;
  room = h.room;
  ascending = ascend-set 0x40000000 r.memories i m 0x44000000 h.ascending b l;
  symbols_are = h.symbols_are;
}

-- there are as many memories as objects
pub memory_count : (r : RosterValue) → IsRoster r → length r.memories ≡ length r.objects
memory_count r h =
    let objects = zip-length IsMappingOf (map (λ o. o.records) r.objects) r.roots h.mappings_are in
    let memories = zip-length IsMemoryOf r.roots r.memories h.memories_are in
    sym memories ∙ sym objects ∙ length-map r.objects (λ o. o.records)

-- a roster after one of its memories was relocated
pub still_roster : {T : Type 0} (r : RosterValue) (i : ℕ) (setting : Setting) (old new : TaggedMemory) (result : Result T RelocRefusal) → IsRoster r → old ≡ memory_at r i
    → Binds setting old new result → IsRoster (with_memory r i new)
still_roster r i setting old new result h e b =
    let shape = binds-shape setting old new result b in
    IsRoster-with_memory r i new h (shape.0 ∙ ap (λ (m : TaggedMemory). m.base) e) (shape.1 ∙ ap (λ (m : TaggedMemory). length m.bytes) e)

pub rebinds_of : {T : Type 0} (r : RosterValue) (i : ℕ) (rule : Rule) (scope : List ℕ) (old new : TaggedMemory) (result : Result T RelocRefusal) → old ≡ memory_at r i
    → Binds (setting_with rule (objects_in r) scope i) old new result → Rebinds (setting_with rule (objects_in r) scope i) r (with_memory r i new) result
rebinds_of r i rule scope old new (Ok x) e b = (b.0, b.1, ap (with_memory r i) (b.2 ∙ ap (with_pairs b.0) e))
rebinds_of r i rule scope old new (Err refusal) e b =
    (b.0, ap (with_memory r i) (b.1 ∙ e) ∙ ap (λ (ms : List TaggedMemory). record r { memories = ms }) (set-get_or r.memories i no_memory))

pub owned_of : (r : RosterValue) (i : ℕ) (new : TaggedMemory) → i < length r.memories → AreNarrowed r.roots new → AreNoted (records_in r) new → HasOwned r (memory_at (with_memory r i new) i)
owned_of r i new lt n s =
    let same : memory_at (with_memory r i new) i ≡ new = get_or-set_same r.memories i new no_memory lt in
    let owned : HasOwned r new = record { narrowed = n; noted = s } in
    subst (HasOwned r) (sym same) owned
