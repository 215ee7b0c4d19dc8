-- The image of a session is read back.
use Rattle.std.proofs.Common.{◌≡◌, ℕ, ◌%◌, ◌<◌, ◌≤◌, IsTrue, List, [], ◌∷◌, length, Result, Ok, Err, OnOk, ap, ◌∙◌, subst, sym}
use Rattle.std.specs.Prelude.{All, IfOk}
use Rattle.std.specs.Int.{is_power_of_two}
use Rattle.std.specs.List.{AllZip}
use Rattle.std.proofs.lemmas.List.Elements.{All-nil, All-cons, All-head, All-tail}
use Rattle.cap_map.proofs.Pages.{multiple_pages}
use Rattle.cap_mem.specs.IsMemory.{IsMemory}
use Rattle.cap_mem.specs.Tagged.{TaggedMemory}
use Rattle.cap_image.specs.ReadBack.{CanBeRead, ImagesAreReadBack, MemoriesAreImages}
use Rattle.cap_image.specs.Reading.{read_image}
use Rattle.cap_image.specs.Writing.{image_of, image_bytes}
use Rattle.cap_session.specs.Mappings.{IsMappingOf, IsMemoryOf}
use Rattle.cap_session.specs.Session.{SessionValue, IsSession, all_records}
use Rattle.purecap.proofs.Written.{can_be_written}

-- what holds of the memory of each object
module _ {O M : Type 0} (IsOf : O → M → Type 0) (IsIn : M → TaggedMemory → Type 0) (IsGood : O → Type 0) (Holds : TaggedMemory → Type 0)
    (one : (o : O) (root : M) (m : TaggedMemory) → IsOf o root → IsIn root m → IsGood o → Holds m) where
  each_memory : (objects : List O) (roots : List M) (memories : List TaggedMemory) → AllZip IsOf objects roots → AllZip IsIn roots memories → All IsGood objects → All Holds memories
  each_memory objects roots [] mappings are good = All-nil Holds
  each_memory [] [] (m ∷ memories) mappings are good = absurd are
  each_memory [] (root ∷ roots) (m ∷ memories) mappings are good = absurd mappings
  each_memory (o ∷ objects) [] (m ∷ memories) mappings are good = absurd mappings
  each_memory (o ∷ objects) (root ∷ roots) (m ∷ memories) mappings are good =
      All-cons Holds m memories (one o root m mappings.0 are.0 (All-head IsGood o objects good)) (each_memory objects roots memories mappings.1 are.1 (All-tail IsGood o objects good))

-- a memory begins at a page, and has at least one byte
record IsPlaced (m : TaggedMemory) : Type 0 where
  base : m.base % 4096 ≡ 0
  some : 0 < length m.bytes

placed : (s : SessionValue) → IsSession s → All IsPlaced s.memories
placed s is =
    each_memory IsMappingOf IsMemoryOf (λ o. IsTrue (is_power_of_two o.align) × (4096 ≤ o.align)) IsPlaced
    (λ o root m mapping memory good. record {
      base = ap (λ (n : ℕ). n % 4096) memory.0 ∙ multiple_pages root.base o.align good.0 good.1 mapping.aligned;
      some = subst (λ (n : ℕ). 0 < n) (sym memory.1) mapping.positive;
    })
    (all_records s) s.roots s.memories is.roster.mappings_are is.roster.memories_are (λ k d below. ((is.read k d below).align_power, (is.read k d below).align_low))

pub can_be_read : (s : SessionValue) → IsSession s → All IsMemory s.memories → CanBeRead s.names s.symbols s.memories
can_be_read s is sound = record {
  can_be_written = can_be_written s is;
  mapped = λ k d below. record { base_in_pages = (placed s is k d below).base; some_bytes = (placed s is k d below).some; sound = sound k d below };
  ascending = is.roster.ascending;
  object_names = λ k d below. (is.roster.names_are k d below).1.plain;
  symbol_names = λ k d below i e within. (is.symbol_names k d below i e within).plain;
}

-- the bytes of its image are read as exactly this image
pub session_reads_back : ImagesAreReadBack → MemoriesAreImages → (s : SessionValue) → IsSession s → All IsMemory s.memories
    → read_image (image_bytes (image_of s.names s.symbols s.memories)) ≡ Ok (image_of s.names s.symbols s.memories)
session_reads_back reads_back are_images s is sound =
    reads_back (image_of s.names s.symbols s.memories) (are_images s.names s.symbols s.memories (can_be_read s is sound))

-- so are the bytes that writing it gives
pub written_reads_back : {V E : Type 0} (items : V → List ℕ) → ImagesAreReadBack → MemoriesAreImages → (s : SessionValue) → IsSession s → (result : Result V E)
    → IfOk result (λ v. items v ≡ image_bytes (image_of s.names s.symbols s.memories)) → OnOk result (All IsMemory s.memories)
    → IfOk result (λ v. read_image (items v) ≡ Ok (image_of s.names s.symbols s.memories))
written_reads_back items reads_back are_images s is (Ok v) bytes sound = ap read_image bytes ∙ session_reads_back reads_back are_images s is sound
written_reads_back items reads_back are_images s is (Err e) bytes sound = tt
