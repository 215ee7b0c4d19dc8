-- What the pairs of loaded objects say, where each object has its mapping.
use Rattle.std.proofs.Common.{◌≡◌, ℕ, suc, zero, ◌+◌, ◌<◌, ◌≤◌, inl, inr, List, [], ◌∷◌, ◌++◌, length, get_or, map, refl, ap, sym, ◌∙◌, subst, arith}
use Rattle.std.specs.Prelude.{All, Contains, IsSomeAnd, Ok, slice_get, slice_index}
use Rattle.std.proofs.lemmas.List.{get_or_append_left, length-append, length-map, length-replicate, map-append}
use Rattle.std.proofs.lemmas.List.Elements.{All-weaker}
use Rattle.cap_elf.specs.DynView.{DynRecords}
use Rattle.cap_own.specs.Cap.{Mapping, IsGrant}
use Rattle.cap_mem.specs.Tagged.{TaggedMemory, fresh_memory}
use Rattle.cap_fits.specs.Fits.{loaded_intervals}
use Rattle.cap_scope.specs.declared.choice.Rule.{Rule}
use Rattle.cap_scope.specs.Chosen.{no_records, object_at}
use Rattle.cap_reloc.specs.Binding.{AreMappings, IsUnrelocated}
use Rattle.cap_reloc.specs.Laws.{IsOfData, RefusedIsUnfit, WantedIsApart, WantedIsData, WantedIsInside, WantedIsNarrowed}
use Rattle.cap_reloc.specs.Planned.{IsNarrowedIn, IsSlotIn}
use Rattle.cap_reloc.specs.Sound.{IsPlaced}
use Rattle.cap_reloc.specs.Wanted.{Content, Number, Untagged, Tagged, Pair, Setting, wanted_pairs}
use Rattle.cap_session.specs.Binding.{objects_of, setting_of}
use Rattle.cap_session.specs.Exact.{AreSlotsOf, IsBoundOf, LieBehind, LiesIn}
use Rattle.cap_session.specs.Loading.{Loaded, records_of}
use Rattle.cap_session.specs.Scope.{Opening, scope_of}
use Rattle.cap_session.proofs.Making.{some-below}
use Rattle.cap_session.proofs.ReadObjects.{AreLoaded}
use Rattle.cap_session.proofs.Trees.{scope-below}

-- what relocating says of all pairs that are wanted
pub record PairLaws : Type 0 where
  pub narrowed : WantedIsNarrowed
  pub apart : WantedIsApart
  pub inside : WantedIsInside
  pub bounds : WantedIsData
  pub unfit : RefusedIsUnfit

abbrev pub root_of : ℕ → Loaded → Mapping
root_of n o = record { base = o.base; len = (records_of o).span; owner = n }

-- the mappings of objects, numbered from one on
abbrev pub roots_from : ℕ → List Loaded → List Mapping
roots_from n [] = []
roots_from n (o ∷ objects) = root_of n o ∷ roots_from (n + 1) objects

mappings-are : (from n : ℕ) (objects : List Loaded) → LieBehind from objects → AreMappings (map records_of objects) n (roots_from n objects)
mappings-are from n [] h = tt
mappings-are from n (o ∷ objects) h = (record { size = refl; aligned = h.1; owner = refl }, mappings-are (o.base + (records_of o).span) (n + 1) objects h.2)

bases-are : (n : ℕ) (objects : List Loaded) → map (λ (o : Loaded). o.base) objects ≡ map (λ (r : Mapping). r.base) (roots_from n objects)
bases-are n [] = refl
bases-are n (o ∷ objects) = ap (λ (bases : List ℕ). o.base ∷ bases) (bases-are (n + 1) objects)

root-count : (n : ℕ) (objects : List Loaded) → length (roots_from n objects) ≡ length objects
root-count n [] = refl
root-count n (o ∷ objects) = let rest = root-count (n + 1) objects in omega (arith, rest)

pub root-at : (P : Mapping → Type 0) (n i : ℕ) (objects : List Loaded) (d : Loaded) → i < length objects → ((k : ℕ) → P (root_of k (get_or objects i d))) → IsSomeAnd (slice_get (roots_from n objects) i) P
root-at P n i [] d lt h = absurd (omega (arith, lt))
root-at P n zero (o ∷ objects) d lt h = h n
root-at P n (suc i) (o ∷ objects) d lt h = root-at P (n + 1) i objects d (omega (arith, lt)) h

-- how an object among loaded ones is relocated
pub record IsRelocated (objects : List Loaded) (start_count : ℕ) (openings : List Opening) (i : ℕ) : Type 0 where
  pub loaded : AreLoaded objects
  pub index : i < length objects
  pub start_few : start_count ≤ length objects
  pub trees : All (λ o. All (λ j. j < length objects) o.tree) openings

pub is-placed : (rule : Rule) (objects : List Loaded) (start_count : ℕ) (openings : List Opening) (i : ℕ) → IsRelocated objects start_count openings i
    → IsPlaced (roots_from 0 objects) (setting_of rule (objects_of objects) start_count openings i)
is-placed rule objects start_count openings i h =
    let many = length-map objects records_of in
    let few = h.loaded.few in
    let index = h.index in
    record {
      read = h.loaded.read;
      mappings = mappings-are 0x40000000 0 objects h.loaded.behind;
      bases = bases-are 0 objects;
      index = omega (arith, many, index);
      few = omega (arith, many, few);
      scope =
          subst (λ (n : ℕ). All (λ j. j < n) (scope_of (object_at (map records_of objects) i).symbolic start_count openings i)) (sym many)
          (scope-below (length objects) (object_at (map records_of objects) i).symbolic start_count openings i h.index h.start_few h.trees);
    }

-- the memory of an object, before anything is stored
unrelocated : (objects : List Loaded) (i : ℕ) (d : Loaded) → i < length objects → IsUnrelocated (roots_from 0 objects) i (fresh_memory (get_or objects i d).base (records_of (get_or objects i d)).span)
unrelocated objects i d lt =
    let o : Loaded = get_or objects i d in
    let memory : TaggedMemory = fresh_memory o.base (records_of o).span in
    root-at (λ (root : Mapping). (memory.base ≡ root.base) × (length memory.bytes ≡ root.len) × (memory.words ≡ [])) 0 i objects d lt
    (λ k. (refl, length-replicate {A = ℕ} (records_of o).span 0, refl))

lies-in : (o : Loaded) (p : Pair) → IsSlotIn (fresh_memory o.base (records_of o).span) p → LiesIn o p
lies-in o p h =
    let from = h.inside.from in
    let to = h.inside.to in
    let size = length-replicate {A = ℕ} (records_of o).span 0 in
    (from, omega (arith, to, size))

pub slots-of : (laws : PairLaws) (rule : Rule) (objects : List Loaded) (start_count : ℕ) (openings : List Opening) (i : ℕ) (d : Loaded) (pairs : List Pair) → IsRelocated objects start_count openings i
    → wanted_pairs (setting_of rule (objects_of objects) start_count openings i) ≡ Ok pairs → AreSlotsOf (get_or objects i d) pairs
slots-of laws rule objects start_count openings i d pairs h is =
    let o : Loaded = get_or objects i d in
    let roots : List Mapping = roots_from 0 objects in
    let setting : Setting = setting_of rule (objects_of objects) start_count openings i in
    let placed = is-placed rule objects start_count openings i h in
    record {
      apart = laws.apart roots setting pairs placed is;
      within = All-weaker (IsSlotIn (fresh_memory o.base (records_of o).span)) (LiesIn o) (lies-in o) pairs (laws.inside roots setting pairs (fresh_memory o.base (records_of o).span) placed is (unrelocated objects i d h.index));
    }

bound-of : (objects : List Loaded) (setting : Setting) (content : Content) → setting.objects ≡ map records_of objects → setting.bases ≡ map (λ (o : Loaded). o.base) objects
    → IsNarrowedIn (roots_from 0 objects) content → IsOfData setting content → IsBoundOf objects content
bound-of objects setting (Number n) same bases narrowed h = tt
bound-of objects setting (Untagged n) same bases narrowed h = tt
bound-of objects setting (Tagged c note) same bases narrowed (inl h) = inl h
bound-of objects setting (Tagged c note) same bases narrowed (inr h) =
    let low = some-below (roots_from 0 objects) c.owner (λ (root : Mapping). IsGrant (record { root = root; cap = c })) narrowed in
    let count = root-count 0 objects in
    inr (
      omega (arith, low, count),
      subst (λ (bs : List ℕ). Contains (loaded_intervals (object_at (map records_of objects) c.owner) (slice_index bs c.owner)) (c.base, c.len)) bases
          (subst (λ (os : List DynRecords). Contains (loaded_intervals (object_at os c.owner) (slice_index setting.bases c.owner)) (c.base, c.len)) same h),
    )

pub bounds-of : (laws : PairLaws) (rule : Rule) (objects : List Loaded) (start_count : ℕ) (openings : List Opening) (i : ℕ) (pairs : List Pair) → IsRelocated objects start_count openings i
    → wanted_pairs (setting_of rule (objects_of objects) start_count openings i) ≡ Ok pairs → All (λ (p : Pair). IsBoundOf objects p.content) pairs
bounds-of laws rule objects start_count openings i pairs h is =
    let roots : List Mapping = roots_from 0 objects in
    let setting : Setting = setting_of rule (objects_of objects) start_count openings i in
    let placed = is-placed rule objects start_count openings i h in
    λ k d lt. bound-of objects setting (get_or pairs k d).content refl refl (laws.narrowed roots setting pairs placed is k d lt) (laws.bounds roots setting pairs placed is k d lt)

-- objects behind those that are there change no bounds
pub bound-stays : (objects more : List Loaded) (content : Content) → IsBoundOf objects content → IsBoundOf (objects ++ more) content
bound-stays objects more (Number n) h = tt
bound-stays objects more (Untagged n) h = tt
bound-stays objects more (Tagged c note) (inl h) = inl h
bound-stays objects more (Tagged c note) (inr h) =
    let low = h.0 in
    let records = length-map objects records_of in
    let bases = length-map objects (λ (o : Loaded). o.base) in
    let many = length-append objects more in
    let object : object_at (map records_of (objects ++ more)) c.owner ≡ object_at (map records_of objects) c.owner =
    ap (λ (os : List DynRecords). get_or os c.owner no_records) (map-append records_of objects more)
    ∙ get_or_append_left (map records_of objects) (map records_of more) no_records c.owner (omega (arith, low, records)) in
    let base : slice_index (map (λ (o : Loaded). o.base) (objects ++ more)) c.owner ≡ slice_index (map (λ (o : Loaded). o.base) objects) c.owner =
    ap (λ (bs : List ℕ). get_or bs c.owner 0) (map-append (λ (o : Loaded). o.base) objects more)
    ∙ get_or_append_left (map (λ (o : Loaded). o.base) objects) (map (λ (o : Loaded). o.base) more) 0 c.owner (omega (arith, low, bases)) in
    inr (
      omega (arith, low, many),
      subst (λ (b : ℕ). Contains (loaded_intervals (object_at (map records_of (objects ++ more)) c.owner) b) (c.base, c.len)) (sym base)
          (subst (λ (o : DynRecords). Contains (loaded_intervals o (slice_index (map (λ (o : Loaded). o.base) objects) c.owner)) (c.base, c.len)) (sym object) h.1),
    )
