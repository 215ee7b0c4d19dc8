-- A session can be written.
use Rattle.std.proofs.Common.{◌≡◌, ℕ, ◌+◌, ◌%◌, ◌^◌, ◌<◌, ◌≤◌, Bool, List, [], ◌∷◌, length, map, All, slice_index_or, refl, sym, ap, ◌∙◌, arith}
use Rattle.std.specs.List.{AllZip}
use Rattle.std.proofs.lemmas.Slice.Zip.{AllZip-long}
use Rattle.std.proofs.lemmas.List.Elements.{All-nil, All-cons, All-head, All-tail}
use Rattle.cap_mem.specs.Tagged.{TaggedMemory, TaggedWord}
use Rattle.cap_mem.specs.Ascending.{Ascend}
use Rattle.cap_image.specs.Writing.{HasSymbol, IsWritable, IsObjectName, CanBeWritten}
use Rattle.cap_session.specs.Mappings.{IsName, IsMappingOf, IsMemoryOf}
use Rattle.cap_session.specs.Session.{SessionValue, HasOwners, IsSession, all_records}

map-length : {A B : Type 0} (f : A → B) (xs : List A) → length (map f xs) ≡ length xs
map-length f [] = refl
map-length f (x ∷ xs) = let rest = map-length f xs in omega (arith, rest)

object_names : (names : List (List ℕ × Bool)) → All (λ n. IsName n.0) names → All IsObjectName names
object_names names all = λ k d below. let name = all k d below in record { some = name.0; short = name.1.short }

ascend_within : (from : ℕ) (memories : List TaggedMemory) → Ascend from memories 0x44000000 → Ascend from memories (2 ^ 64)
ascend_within from [] ascend = omega (arith, ascend)
ascend_within from (m ∷ memories) ascend = (ascend.0, ascend_within (m.base + length m.bytes) memories ascend.1)

ascend_from : (memories : List TaggedMemory) → Ascend 0x40000000 memories (2 ^ 64) → Ascend 0 memories (2 ^ 64)
ascend_from [] ascend = omega arith
ascend_from (m ∷ memories) ascend = (omega arith, ascend.1)

ends_within : (from : ℕ) (memories : List TaggedMemory) → Ascend from memories 0x44000000 → from ≤ 0x44000000
ends_within from [] ascend = ascend
ends_within from (m ∷ memories) ascend =
    let rest = ends_within (m.base + length m.bytes) memories ascend.1 in let first = ascend.0 in omega (arith, rest, first)

has_names : (symbols : List (List (List ℕ × Bool))) (words : List TaggedWord) → All (λ w. w.cap.owner < length symbols) words
    → All (λ w. w.note < length (slice_index_or symbols w.cap.owner [])) words → All (λ w. HasSymbol symbols w.cap.owner w.note) words
has_names symbols words owners notes = λ k d below. record { owner_is = owners k d below; note_is = notes k d below }

module _ {O M : Type 0} (span : O → ℕ) (IsOf : O → M → Type 0) (IsIn : M → TaggedMemory → Type 0)
    (sized : (o : O) (root : M) (m : TaggedMemory) → IsOf o root → IsIn root m → length m.bytes ≡ span o) where
  writable : (symbols : List (List (List ℕ × Bool))) (from : ℕ) (objects : List O) (roots : List M) (memories : List TaggedMemory)
      → AllZip IsOf objects roots → AllZip IsIn roots memories → All (λ o. span o % 4096 ≡ 0) objects → Ascend from memories 0x44000000
      → All (HasOwners symbols) memories → All (IsWritable symbols) memories
  writable symbols from objects roots [] mappings are pages ascend owners = All-nil (IsWritable symbols)
  writable symbols from [] [] (m ∷ memories) mappings are pages ascend owners = absurd are
  writable symbols from [] (root ∷ roots) (m ∷ memories) mappings are pages ascend owners = absurd mappings
  writable symbols from (o ∷ objects) [] (m ∷ memories) mappings are pages ascend owners = absurd mappings
  writable symbols from (o ∷ objects) (root ∷ roots) (m ∷ memories) mappings are pages ascend owners =
      let within = ends_within (m.base + length m.bytes) memories ascend.1 in
      let owned = All-head (HasOwners symbols) m memories owners in
      let paged = All-head (λ o. span o % 4096 ≡ 0) o objects pages in
      All-cons (IsWritable symbols) m memories
      (record {
        pages = ap (λ (n : ℕ). n % 4096) (sized o root m mappings.0 are.0) ∙ paged;
        size = omega (arith, within);
        words = has_names symbols m.words owned.owners owned.notes;
      })
      (writable symbols (m.base + length m.bytes) objects roots memories mappings.1 are.1 (All-tail (λ o. span o % 4096 ≡ 0) o objects pages) ascend.1
      (All-tail (HasOwners symbols) m memories owners))

pub can_be_written : (s : SessionValue) → IsSession s → CanBeWritten s.names s.symbols s.memories
can_be_written s is =
    let records = map-length (λ o. o.records) s.objects in
    let roots = AllZip-long IsMappingOf (all_records s) s.roots is.roster.mappings_are in
    let memories = AllZip-long IsMemoryOf s.roots s.memories is.roster.memories_are in
    let count : length s.memories ≡ length s.objects = memories ∙ roots ∙ records in
    let few = is.roster.few in
    record {
      few = omega (arith, count, few);
      name_count = is.roster.name_count ∙ sym count;
      symbol_count = ap length is.roster.symbols_are ∙ map-length _ (all_records s) ∙ records ∙ sym count;
      object_names = object_names s.names is.roster.names_are;
      symbol_names = λ k d below i e within. (is.symbol_names k d below i e within).short;
      ascending = ascend_from s.memories (ascend_within 0x40000000 s.memories is.roster.ascending);
      writable = writable (λ o. o.span) IsMappingOf IsMemoryOf (λ o root m mapping memory. memory.1 ∙ mapping.size) s.symbols 0x40000000 (all_records s) s.roots s.memories is.roster.mappings_are is.roster.memories_are (λ k d below. (is.read k d below).span_pages) is.roster.ascending is.owners;
    }
