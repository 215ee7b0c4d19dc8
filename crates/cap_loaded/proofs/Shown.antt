-- The image of a state shows each loaded object.
use Rattle.std.proofs.Common.{◌≡◌, ℕ, ◌+◌, ◌-◌, ◌*◌, ◌<◌, Bool, true, false, List, [], length, get_or, map, sym, ap, ◌∙◌, subst, arith}
use Rattle.std.specs.Prelude.{All, slice_index}
use Rattle.std.specs.List.{list_any, zip}
use Rattle.std.proofs.lemmas.List.{get_or-map, get_or_append_left, length-map}
use Rattle.std.proofs.lemmas.List.FromFn.{get_or-map-range_with_len}
use Rattle.std.proofs.lemmas.Slice.Zip.{get_or-zip, length-zip}
use Rattle.cap_elf.specs.DynView.{DynRecords}
use Rattle.cap_map.specs.Mapped.{mapped_byte}
use Rattle.cap_mem.specs.Tagged.{TaggedMemory, is_tagged}
use Rattle.cap_scope.specs.declared.choice.Rule.{Rule}
use Rattle.cap_scope.specs.Chosen.{no_records}
use Rattle.cap_reloc.specs.Meant.{has_slot}
use Rattle.cap_reloc.specs.Shown.{HoldsMeant, ShowsMeant, names_at}
use Rattle.cap_reloc.specs.Wanted.{Pair, Relocation, Setting, own, relocations_of, touches}
use Rattle.cap_image.specs.ImageLaws.{ObjectsAreOfMemories, TagsAreRead}
use Rattle.cap_image.specs.Parts.{ImageObject, ImageParts, no_object, tag_in}
use Rattle.cap_image.specs.Writing.{CanBeWritten, object_of, objects_of}
use Rattle.cap_session.specs.Binding as binding
use Rattle.cap_session.specs.Bound.{IsBoundAt}
use Rattle.cap_session.specs.Calls.{Call}
use Rattle.cap_session.specs.Held.{state_symbols}
use Rattle.cap_session.specs.Loading.{Fetch, Loaded, records_of}
use Rattle.cap_session.specs.Roster.{placed_memory}
use Rattle.cap_session.specs.Scope.{Opening}
use Rattle.cap_session.specs.State.{State, memories_of, memory_of}
use Rattle.cap_session.proofs.HeldObjects.{placed-long}
use Rattle.cap_loaded.specs.Images.{state_image}
use Rattle.cap_loaded.specs.Shown.{Shows, ShowsState}

-- an object of an image that has a memory's bytes and tags shows what the memory shows
shows-by : (image : ImageParts) (shown : ImageObject) (s : Setting) (o : Loaded) (memory : TaggedMemory) → own s ≡ records_of o → shown.name ≡ o.name → shown.base ≡ o.base → shown.bytes ≡ memory.bytes
    → ((k : ℕ) → 16 * k < length memory.bytes → tag_in image (o.base + 16 * k) ≡ is_tagged memory (o.base + 16 * k))
    → ShowsMeant s (placed_memory o).bytes memory.bytes (λ at. is_tagged memory (o.base + at)) → Shows image shown s o
shows-by image shown s o memory own_is name base bytes tagged h =
    let rs : own s ≡ records_of o = own_is in
    let long : length shown.bytes ≡ length memory.bytes = ap length bytes in
    let size = h.size in
    let span = placed-long o in
    record {
      name = name;
      base = base;
      size = long ∙ size ∙ span;
      tags = λ k below. tagged k (omega (arith, below, long)) ∙ h.tags (16 * k) ∙ ap (λ (x : DynRecords). list_any (names_at s (16 * k)) (relocations_of x)) rs;
      slots =
          subst (λ (x : DynRecords). All (λ (r : Relocation). has_slot r ≡ true → HoldsMeant s shown.bytes r) (relocations_of x)) rs
          (subst (λ (bs : List ℕ). All (λ (r : Relocation). has_slot r ≡ true → HoldsMeant s bs r) (relocations_of (own s))) (sym bytes) h.slots);
      others = λ at below free.
          let all : (records_of o).span - 0 ≡ (records_of o).span = omega arith in
          let there : slice_index (placed_memory o).bytes at ≡ mapped_byte o.source.bytes (records_of o).segments at =
          get_or-map-range_with_len (mapped_byte o.source.bytes (records_of o).segments) 0 ((records_of o).span - 0) at at 0 (omega (arith, below, long, size, span, all)) (omega arith) in
          ap (λ (bs : List ℕ). slice_index bs at) bytes ∙ h.others at (omega (arith, below, long)) (ap (λ (x : DynRecords). touches (at, 1) (relocations_of x)) rs ∙ free) ∙ there;
    }

-- the records of the object that is relocated
own-records : (rule : Rule) (objects : List Loaded) (start_count : ℕ) (openings : List Opening) (i : ℕ) (d : Loaded) → i < length objects
    → own (binding.setting_of rule (binding.objects_of objects) start_count openings i) ≡ records_of (get_or objects i d)
own-records rule objects start_count openings i d lt = get_or-map records_of objects i d no_records lt

-- the memory of an object is that of its bytes and its pairs
memory-at : (objects : List Loaded) (pairs : List (List Pair)) (i : ℕ) (d : Loaded) → length pairs ≡ length objects → i < length objects → get_or (map memory_of (zip objects pairs)) i (memory_of (d, [])) ≡ memory_of (get_or objects i d, get_or pairs i [])
memory-at objects pairs i d count lt =
    let long = length-zip objects pairs in
    get_or-map memory_of (zip objects pairs) i (d, []) (memory_of (d, [])) (omega (arith, long, count, lt))
    ∙ ap memory_of (get_or-zip objects pairs i (d, []) lt (omega (arith, count, lt)))

pub shown-state : ObjectsAreOfMemories → TagsAreRead → (fetch : Fetch) (dir main : List ℕ) (rule : Rule) (calls : List Call) (state : State)
    → length state.pairs ≡ length state.objects → CanBeWritten (map (λ (o : Loaded). (o.name, true)) state.objects) (state_symbols state) (memories_of state)
    → ((i : ℕ) → i < length state.objects → IsBoundAt fetch dir main rule calls state i)
    → ((i : ℕ) (d : Loaded) (h : IsBoundAt fetch dir main rule calls state i) → ShowsMeant (binding.setting_of rule (binding.objects_of h.objects) h.start_count h.openings i) (placed_memory (get_or state.objects i d)).bytes
    (memory_of (get_or state.objects i d, get_or state.pairs i [])).bytes (λ at. is_tagged (memory_of (get_or state.objects i d, get_or state.pairs i [])) ((get_or state.objects i d).base + at)))
    → ShowsState (state_image state) fetch dir main rule calls state
shown-state objects_are tags_read fetch dir main rule calls state count can bound shown =
    let names : List (List ℕ × Bool) = map (λ (o : Loaded). (o.name, true)) state.objects in
    let symbols = state_symbols state in
    let memories : List TaggedMemory = memories_of state in
    let zipped = length-zip state.objects state.pairs in
    let made = length-map (zip state.objects state.pairs) memory_of in
    let many : length memories ≡ length state.objects = omega (arith, made, zipped, count) in
    let listed = length-zip names memories in
    let named = length-map {B = List ℕ × Bool} state.objects (λ (o : Loaded). (o.name, true)) in
    let all = length-map (zip names memories) (object_of symbols) in
    record {
      count = omega (arith, all, listed, named, many);
      each = λ i d lt.
          let o : Loaded = get_or state.objects i d in
          let memory : TaggedMemory = memory_of (o, get_or state.pairs i []) in
          let is : get_or memories i (memory_of (d, [])) ≡ memory = memory-at state.objects state.pairs i d count lt in
          let below : i < length memories = omega (arith, many, lt) in
          let name : get_or names i ([], false) ≡ (o.name, true) = get_or-map (λ (o : Loaded). (o.name, true)) state.objects i d ([], false) lt in
          let object : get_or (objects_of names symbols memories) i no_object ≡ object_of symbols ((o.name, true), memory) =
          objects_are names symbols memories i (memory_of (d, [])) can below
          ∙ ap (λ (n : List ℕ × Bool). object_of symbols (n, get_or memories i (memory_of (d, [])))) name ∙ ap (λ (m : TaggedMemory). object_of symbols ((o.name, true), m)) is in
          let tagged : (k : ℕ) → 16 * k < length memory.bytes → tag_in (state_image state) (o.base + 16 * k) ≡ is_tagged memory (o.base + 16 * k) =
          subst (λ (m : TaggedMemory). (k : ℕ) → 16 * k < length m.bytes → tag_in (state_image state) (m.base + 16 * k) ≡ is_tagged m (m.base + 16 * k)) is (tags_read names symbols memories i (memory_of (d, [])) can below) in
          let h = bound i lt in
          let first : own (binding.setting_of rule (binding.objects_of h.objects) h.start_count h.openings i) ≡ records_of o =
          own-records rule h.objects h.start_count h.openings i d h.to ∙ ap records_of (sym (ap (λ (os : List Loaded). get_or os i d) h.begins ∙ get_or_append_left h.objects h.later d i h.to)) in
          record {
            bound = h;
            shows =
                shows-by (state_image state) (get_or (objects_of names symbols memories) i no_object) (binding.setting_of rule (binding.objects_of h.objects) h.start_count h.openings i) o memory first
                (ap (λ (x : ImageObject). x.name) object) (ap (λ (x : ImageObject). x.base) object) (ap (λ (x : ImageObject). x.bytes) object) tagged (shown i d h);
          };
    }
