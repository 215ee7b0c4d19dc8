-- What the memory of each loaded object holds.
use Rattle.std.proofs.Common.{◌≡◌, ℕ, suc, zero, ◌+◌, ◌-◌, ◌%◌, ◌^◌, ◌<◌, ◌≤◌, List, [], ◌∷◌, ◌++◌, length, get_or, map, refl, ap, sym, ◌∙◌, subst, arith}
use Rattle.std.specs.Prelude.{◌≢◌, All, AllPairs, Ok}
use Rattle.std.specs.List.{AllZip, range_with_len}
use Rattle.std.proofs.lemmas.List.{get_or-append-add, get_or_append_left, length-append, length-map, map-append}
use Rattle.std.proofs.lemmas.List.Elements.{All-cons, All-head, All-nil, All-tail, All-weaker}
use Rattle.std.proofs.lemmas.List.FromFn.{length-map-range_with_len}
use Rattle.cap_base.specs.Steps.{gather}
use Rattle.cap_own.specs.Cap.{Mapping}
use Rattle.cap_elf.specs.DynView.{DynRecords}
use Rattle.cap_elf.specs.IsRead.{IsRead}
use Rattle.cap_map.specs.Mapped.{mapped_byte}
use Rattle.cap_map.proofs.Pages.{multiple_pages}
use Rattle.cap_mem.specs.IsMemory.{IsHeld, IsMemory}
use Rattle.cap_mem.specs.Tagged.{TaggedMemory, TaggedWord}
use Rattle.cap_scope.specs.declared.choice.Rule.{Rule}
use Rattle.cap_scope.specs.Chosen.{no_records, object_at}
use Rattle.cap_reloc.specs.Binding.{IsUnrelocated}
use Rattle.cap_reloc.specs.Laws.{StoredIsNoted, StoredIsSound, WantedIsNoted}
use Rattle.cap_reloc.specs.Noted.{IsNoted}
use Rattle.cap_reloc.specs.Wanted.{Content, Number, Untagged, Tagged, Pair, Setting, wanted_pairs}
use Rattle.cap_session.specs.Binding.{objects_of, pairs_for, pairs_from, reloc_refusal, setting_of}
use Rattle.cap_session.specs.Exact.{LieBehind}
use Rattle.cap_session.specs.Loading.{Loaded, records_of}
use Rattle.cap_session.specs.Roster.{placed_memory}
use Rattle.cap_session.specs.Scope.{Opening}
use Rattle.cap_session.specs.State.{memory_of}
use Rattle.cap_session.proofs.Gathered.{as-ok, gathered}
use Rattle.cap_session.proofs.Placed.{IsRelocated, PairLaws, is-placed, root-at, root_of, roots_from}
use Rattle.cap_session.proofs.Reached.{AreRelocated, relocated-at}

-- what is said of all pairs that are wanted, and of memory in which pairs are stored
pub record HeldLaws : Type 0 where
  pub pairs : PairLaws
  pub wanted : WantedIsNoted
  pub sound : StoredIsSound
  pub noted : StoredIsNoted

pub placed-long : (o : Loaded) → length (placed_memory o).bytes ≡ (records_of o).span
placed-long o =
    let all : (records_of o).span - 0 ≡ (records_of o).span = omega arith in
    length-map-range_with_len (mapped_byte o.source.bytes (records_of o).segments) 0 ((records_of o).span - 0) ∙ all

no-pairs : (R : TaggedWord → TaggedWord → Type 0) → AllPairs R []
no-pairs R i j d order low = absurd (omega (arith, low))

-- the memory of an object before anything is stored in it
placed-sound : (o : Loaded) → IsRead (records_of o) → o.base % (records_of o).align ≡ 0 → o.base + (records_of o).span ≤ 0x44000000 → IsMemory (placed_memory o)
placed-sound o read aligned high =
    let pages = multiple_pages o.base (records_of o).align read.align_power read.align_low aligned in
    let size = placed-long o in
    record {
      aligned = omega (arith, pages);
      end = omega (arith, high, size);
      held = All-nil (IsHeld (placed_memory o));
      distinct = no-pairs (λ v w. v.granule ≢ w.granule);
      ascending = no-pairs (λ v w. v.cap.owner ≤ w.cap.owner);
    }

behind-end : (from : ℕ) (objects : List Loaded) → LieBehind from objects → from ≤ 0x44000000
behind-end from [] h = h
behind-end from (o ∷ objects) h =
    let low = h.0 in
    let rest = behind-end (o.base + (records_of o).span) objects h.2 in
    omega (arith, low, rest)

pub roots-low : (n from : ℕ) (objects : List Loaded) → LieBehind from objects → All (λ (root : Mapping). root.base + root.len ≤ 2 ^ 62) (roots_from n objects)
roots-low n from [] h = All-nil (λ (root : Mapping). root.base + root.len ≤ 2 ^ 62)
roots-low n from (o ∷ objects) h =
    let high = behind-end (o.base + (records_of o).span) objects h.2 in
    All-cons (λ (root : Mapping). root.base + root.len ≤ 2 ^ 62) (root_of n o) (roots_from (n + 1) objects) (omega (arith, high)) (roots-low (n + 1) (o.base + (records_of o).span) objects h.2)

pub sound-at : (from : ℕ) (objects : List Loaded) (k : ℕ) (d : Loaded) → LieBehind from objects → All IsRead (map records_of objects) → k < length objects → IsMemory (placed_memory (get_or objects k d))
sound-at from [] k d h read lt = absurd (omega (arith, lt))
sound-at from (o ∷ objects) zero d h read lt = placed-sound o (All-head IsRead (records_of o) (map records_of objects) read) h.1 (behind-end (o.base + (records_of o).span) objects h.2)
sound-at from (o ∷ objects) (suc k) d h read lt = sound-at (o.base + (records_of o).span) objects k d h.2 (All-tail IsRead (records_of o) (map records_of objects) read) (omega (arith, lt))

pub placed-unrelocated : (objects : List Loaded) (i : ℕ) (d : Loaded) → i < length objects → IsUnrelocated (roots_from 0 objects) i (placed_memory (get_or objects i d))
placed-unrelocated objects i d lt =
    let o : Loaded = get_or objects i d in
    let memory : TaggedMemory = placed_memory o in
    root-at (λ (root : Mapping). (memory.base ≡ root.base) × (length memory.bytes ≡ root.len) × (memory.words ≡ [])) 0 i objects d lt
    (λ k. (refl, placed-long o, refl))

-- an object, among others, and its pairs: with them its memory is sound, and each capability has a note
pub record AreHeld (objects : List Loaded) (o : Loaded) (pairs : List Pair) : Type 0 where
  pub sound : IsMemory (memory_of (o, pairs))
  pub noted : All (λ (p : Pair). IsNoted (map records_of objects) p.content) pairs

held-at : (laws : HeldLaws) (rule : Rule) (objects : List Loaded) (start_count : ℕ) (openings : List Opening) (i : ℕ) (d : Loaded) (pairs : List Pair) → IsRelocated objects start_count openings i
    → wanted_pairs (setting_of rule (objects_of objects) start_count openings i) ≡ Ok pairs → AreHeld objects (get_or objects i d) pairs
held-at laws rule objects start_count openings i d pairs h is =
    let roots : List Mapping = roots_from 0 objects in
    let setting : Setting = setting_of rule (objects_of objects) start_count openings i in
    let memory : TaggedMemory = placed_memory (get_or objects i d) in
    let placed = is-placed rule objects start_count openings i h in
    record {
      sound =
          laws.sound roots pairs memory (roots-low 0 0x40000000 objects h.loaded.behind) (sound-at 0x40000000 objects i d h.loaded.behind h.loaded.read h.index) refl
          (laws.pairs.inside roots setting pairs memory placed is (placed-unrelocated objects i d h.index)) (laws.pairs.apart roots setting pairs placed is) (laws.pairs.narrowed roots setting pairs placed is);
      noted = laws.wanted roots setting pairs placed is;
    }

pub held-pairs : (laws : HeldLaws) (rule : Rule) (dir : List ℕ) (objects old more : List Loaded) (start_count : ℕ) (openings : List Opening) (pairs : List (List Pair)) → objects ≡ old ++ more → AreRelocated objects start_count openings
    → pairs_from rule dir (objects_of objects) start_count openings (length old) ≡ Ok pairs → AllZip (AreHeld objects) more pairs
held-pairs laws rule dir objects old more start_count openings pairs is h e =
    let f = pairs_for rule dir (objects_of objects) start_count openings in
    let all = length-map objects records_of in
    let split = ap length is ∙ length-append old more in
    let count : length (map records_of objects) - length old ≡ length more = omega (arith, all, split) in
    gathered (AreHeld objects) f (length old) more pairs (subst (λ (n : ℕ). gather f (range_with_len (length old) n) ≡ Ok pairs) count e) (λ k d ps lt of.
    let i : ℕ = length old + k in
    let one = relocated-at objects start_count openings i h (omega (arith, split, lt)) in
    let wanted : wanted_pairs (setting_of rule (objects_of objects) start_count openings i) ≡ Ok ps = as-ok (reloc_refusal dir (objects_of objects) i) (wanted_pairs (setting_of rule (objects_of objects) start_count openings i)) ps of in
    let at : get_or objects i d ≡ get_or more k d = ap (λ (os : List Loaded). get_or os i d) is ∙ get_or-append-add old more k d in
    subst (λ (o : Loaded). AreHeld objects o ps) at (held-at laws rule objects start_count openings i d ps one wanted))

-- objects behind those that are there change no notes
note-stays : (objects more : List Loaded) (content : Content) → IsNoted (map records_of objects) content → IsNoted (map records_of (objects ++ more)) content
note-stays objects more (Number n) h = tt
note-stays objects more (Untagged n) h = tt
note-stays objects more (Tagged c note) h =
    let low = h.object in
    let split = map-append records_of objects more in
    let many = ap length split ∙ length-append (map records_of objects) (map records_of more) in
    let object : object_at (map records_of (objects ++ more)) c.owner ≡ object_at (map records_of objects) c.owner =
    ap (λ (os : List DynRecords). get_or os c.owner no_records) split
    ∙ get_or_append_left (map records_of objects) (map records_of more) no_records c.owner low in
    record {
      object = omega (arith, low, many);
      symbol = subst (λ (o : DynRecords). note < length o.symbols) (sym object) h.symbol;
    }

pub held-stays : (objects more xs : List Loaded) (pairs : List (List Pair)) → AllZip (AreHeld objects) xs pairs → AllZip (AreHeld (objects ++ more)) xs pairs
held-stays objects more [] [] h = tt
held-stays objects more [] (p ∷ pairs) h = absurd h
held-stays objects more (x ∷ xs) [] h = absurd h
held-stays objects more (x ∷ xs) (p ∷ pairs) h = (
  record { sound = h.0.sound; noted = All-weaker (λ (q : Pair). IsNoted (map records_of objects) q.content) (λ (q : Pair). IsNoted (map records_of (objects ++ more)) q.content) (λ q. note-stays objects more q.content) p h.0.noted },
  held-stays objects more xs pairs h.1,
)
