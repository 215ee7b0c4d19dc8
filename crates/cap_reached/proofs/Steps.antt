-- What a tagged word loads, it loads by a relocation that its object names.
use Rattle.std.proofs.Common.{◌≡◌, ℕ, zero, suc, ◌+◌, ◌-◌, ◌*◌, ◌/◌, ◌%◌, ◌<◌, ◌≤◌, ◌⊎◌, ⊎_elim, Bool, true, false, List, [], ◌∷◌, ◌++◌, length, get_or, map, Option, Some, None, refl, sym, ap, ◌∙◌, subst, arith}
use Rattle.std.specs.Prelude.{◌||◌, ◌==◌, All, Contains, MatchOption, drop, flat_map, if◌then◌else◌, is_some, nat_le, nat_lt, slice_index, take}
use Rattle.std.specs.List.{list_any}
use Rattle.std.proofs.lemmas.Bool.{and_parts, cases_lt, eqb-true, le-leb, leb-true, lt-ltb}
use Rattle.std.proofs.lemmas.List.{get_or-map, get_or_append_left, get_or_past, length-append, length-map}
use Rattle.std.proofs.lemmas.List.Concat.{flat_map-cons}
use Rattle.std.proofs.lemmas.List.Elements.{All-append, All-contains, All-map, All-nil, Contains-get_or}
use Rattle.cap_conc.specs.declared.word.Fields.{Fields}
use Rattle.cap_conc.specs.Computed.{fields_of}
use Rattle.cap_conc.specs.Laws.{IsComputed}
use Rattle.cap_own.specs.Cap.{Cap, fields_of_cap}
use Rattle.cap_elf.specs.DynView.{DynRecords}
use Rattle.cap_scope.specs.declared.choice.Rule.{Rule}
use Rattle.cap_scope.specs.Chosen.{no_records, object_at as records_at}
use Rattle.cap_reloc.specs.Meant.{has_slot, named_cap, named_number, number_content}
use Rattle.cap_reloc.specs.Shown.{HoldsMeant, IsWordOf, names_at}
use Rattle.cap_reloc.specs.Stored.{content_bytes}
use Rattle.cap_reloc.specs.Wanted.{Entry, Record, Relocation, Setting, relocations_of, slot_of}
use Rattle.cap_image.specs.GranuleLaws.{GranulesAreTagged, GranulesHaveObjects, HeldHaveObjects}
use Rattle.cap_image.specs.Granules.{is_held, is_tagged_at, object_at}
use Rattle.cap_image.specs.Parts.{ImageObject, ImageParts, IsImage, no_object, tag_in, tagged_granules}
use Rattle.cap_image.specs.Report.{word_in}
use Rattle.cap_reach.specs.Reach.{PlacedWord, granules_of, is_within, loads, may_load, placed_in, words_in, words_of}
use Rattle.cap_reach.proofs.Collected.{granules_are}
use Rattle.cap_session.specs.Binding.{objects_of, setting_of}
use Rattle.cap_session.specs.Bound.{IsBoundAt}
use Rattle.cap_session.specs.Calls.{Call}
use Rattle.cap_session.specs.Loading.{Fetch, Loaded, records_of}
use Rattle.cap_session.specs.State.{State}
use Rattle.cap_loaded.specs.Images.{state_image}
use Rattle.cap_loaded.specs.Shown.{Shows, ShowsAt, ShowsState}
use Rattle.cap_reached.specs.Leading.{HoldsGranule, IsStep, loaded_at, none_loaded}

-- ---- a tagged word, and the object that holds it

-- a word is that of its granule
abbrev IsOfGranule : ImageParts → PlacedWord → Type 0
IsOfGranule image w = w.word ≡ word_in (object_at image w.granule).bytes (w.granule - (object_at image w.granule).base)

of-object : (image : ImageParts) (o : ImageObject) → ((granule : ℕ) → Contains (tagged_granules o) granule → object_at image granule ≡ o) → All (IsOfGranule image) (words_in o)
of-object image o found =
    All-map (IsOfGranule image) (placed_in o) (tagged_granules o) (λ k d lt.
    let granule : ℕ = get_or (tagged_granules o) k d in
    ap (λ (x : ImageObject). word_in x.bytes (granule - x.base)) (sym (found granule (Contains-get_or (tagged_granules o) k d lt))))

of-objects : (image : ImageParts) (os : List ImageObject) → ((k : ℕ) → k < length os → (granule : ℕ) → Contains (tagged_granules (get_or os k no_object)) granule → object_at image granule ≡ get_or os k no_object) → All (IsOfGranule image) (flat_map words_in os)
of-objects image [] found = All-nil (IsOfGranule image)
of-objects image (o ∷ os) found =
    subst (All (IsOfGranule image)) (sym (flat_map-cons words_in o os))
    (All-append (IsOfGranule image) (words_in o) (flat_map words_in os) (of-object image o (found 0 (omega arith))) (of-objects image os (λ k lt. found (suc k) (omega (arith, lt)))))

word-of : GranulesHaveObjects → (image : ImageParts) → IsImage image → (from : PlacedWord) → Contains (words_of image) from → IsOfGranule image from
word-of law image is from has = All-contains (IsOfGranule image) (words_of image) from (of-objects image image.objects (λ k lt granule. law image k granule is lt)) has

granule-tagged : GranulesAreTagged → (image : ImageParts) → IsImage image → (from : PlacedWord) → Contains (words_of image) from → is_tagged_at image from.granule ≡ true
granule-tagged law image is from has =
    let lt = has.1 in
    let many = length-map (words_of image) (λ (w : PlacedWord). w.granule) in
    let at : get_or (granules_of (words_of image)) has.0 from.granule ≡ from.granule =
    get_or-map (λ (w : PlacedWord). w.granule) (words_of image) has.0 from from.granule lt ∙ ap (λ (w : PlacedWord). w.granule) has.2 in
    let listed : Contains (granules_of (words_of image)) from.granule = (has.0, omega (arith, many, lt), at) in
    (law image from.granule is).0 (subst (λ (xs : List ℕ). Contains xs from.granule) (granules_are image) listed)

-- ---- the relocation that names it

-- one of a list passes a test that some do
record Passes (p : Relocation → Bool) (rs : List Relocation) : Type 0 where
  pub one : Relocation
  pub place : ℕ
  pub within : place < length rs
  pub is : get_or rs place one ≡ one
  pub passes : p one ≡ true

behind : (p : Relocation → Bool) (r : Relocation) (rs : List Relocation) → Passes p rs → Passes p (r ∷ rs)
behind p r rs h = let lt = h.within in record { one = h.one; place = suc h.place; within = omega (arith, lt); is = h.is; passes = h.passes }

any-passes : (p : Relocation → Bool) (rs : List Relocation) → list_any p rs ≡ true → Passes p rs
any-passes p [] h = absurd cc
any-passes p (r ∷ rs) h = go (p r) refl h (any-passes p rs)
  where
    go : (b : Bool) → p r ≡ b → (b || list_any p rs) ≡ true → (list_any p rs ≡ true → Passes p rs) → Passes p (r ∷ rs)
    go true e h rest = record { one = r; place = 0; within = omega arith; is = refl; passes = e }
    go false e h rest = behind p r rs (rest h)

-- a relocation that names a capability has a slot
width-some : (n : ℕ) (o : Option Cap) → is_some (if n == 16 then o else None) ≡ true → nat_lt 0 n ≡ true
width-some zero o h = absurd cc
width-some (suc n) o h = lt-ltb 0 (suc n) (omega arith)

slot-there : (s : Setting) (r : Relocation) → is_some (named_cap s r) ≡ true → has_slot r ≡ true
slot-there s (Entry e) h = refl
slot-there s (Record r) h = width-some _ _ h

some-cap : (o : Option Cap) → is_some o ≡ true → (c : Cap) × (o ≡ Some c)
some-cap None h = absurd cc
some-cap (Some c) h = (c, refl)

-- what a slot holds whose relocation names this capability
word-meant : (s : Setting) (bytes : List ℕ) (r : Relocation) (c : Cap) → named_cap s r ≡ Some c → HoldsMeant s bytes r → IsWordOf s (word_in bytes (slot_of r).0) c
word-meant s bytes r c is h =
    subst (λ (o : Option Cap). MatchOption o (take (slot_of r).1 (drop (slot_of r).0 bytes) ≡ content_bytes (number_content (slot_of r).1 (named_number s r))) (λ (c : Cap). IsWordOf s (word_in bytes (slot_of r).0) c)) is h

-- ---- where it leads

record LandsIn (objects : List Loaded) (j to : ℕ) : Type 0 where
  pub there : j < length objects
  pub low : (get_or objects j none_loaded).base ≤ to
  pub high : to + 16 ≤ (get_or objects j none_loaded).base + (records_of (get_or objects j none_loaded)).span

-- a granule in the mapping of an object lies in one that is loaded
lands : (objects : List Loaded) (j to : ℕ) → slice_index (map (λ (o : Loaded). o.base) objects) j ≤ to → to + 16 ≤ slice_index (map (λ (o : Loaded). o.base) objects) j + (records_at (map records_of objects) j).span → LandsIn objects j to
lands objects j to low high = ⊎_elim
    (λ (lt : j < length objects).
    let base : slice_index (map (λ (o : Loaded). o.base) objects) j ≡ (get_or objects j none_loaded).base = get_or-map (λ (o : Loaded). o.base) objects j none_loaded 0 lt in
    let records : records_at (map records_of objects) j ≡ records_of (get_or objects j none_loaded) = get_or-map records_of objects j none_loaded no_records lt in
    let span = ap (λ (r : DynRecords). r.span) records in
    record { there = lt; low = omega (arith, base, low); high = omega (arith, base, span, high) })
    (λ (past : length objects ≤ j).
    let bases = length-map objects (λ (o : Loaded). o.base) in
    let many = length-map objects records_of in
    let base : slice_index (map (λ (o : Loaded). o.base) objects) j ≡ 0 = get_or_past (map (λ (o : Loaded). o.base) objects) j 0 (omega (arith, bases, past)) in
    let span : (records_at (map records_of objects) j).span ≡ 0 = ap (λ (r : DynRecords). r.span) (get_or_past (map records_of objects) j no_records (omega (arith, many, past))) in
    absurd (omega (arith, base, span, high)))
    (cases_lt j (length objects))

lands-later : (state : State) (objects later : List Loaded) (j to : ℕ) → state.objects ≡ objects ++ later → LandsIn objects j to → HoldsGranule state j to
lands-later state objects later j to is h =
    let same : get_or state.objects j none_loaded ≡ get_or objects j none_loaded = ap (λ (os : List Loaded). get_or os j none_loaded) is ∙ get_or_append_left objects later none_loaded j h.there in
    let base = ap (λ (o : Loaded). o.base) same in
    let span = ap (λ (o : Loaded). (records_of o).span) same in
    let long = ap length is ∙ length-append objects later in
    let lt = h.there in
    let low = h.low in
    let high = h.high in
    record { there = omega (arith, long, lt); low = omega (arith, base, low); high = omega (arith, base, span, high) }

-- ---- a step

-- what is known of words, and of the granules of images
pub record StepLaws : Type 0 where
  pub computed : IsComputed
  pub tagged : GranulesAreTagged
  pub listed : GranulesHaveObjects
  pub held : HeldHaveObjects

module _ (laws : StepLaws) (fetch : Fetch) (dir main : List ℕ) (rule : Rule) (calls : List Call) (state : State) (is : IsImage (state_image state)) (shows : ShowsState (state_image state) fetch dir main rule calls state) where
  abbrev image : ImageParts
  image = state_image state

  pub step-named : (from : PlacedWord) (to i : ℕ) → Contains (words_of (state_image state)) from → loads from.word to ≡ true → HoldsGranule state i from.granule → (j : ℕ) × IsStep fetch dir main rule calls state i j from.granule to
  step-named from to i has loaded h =
      let g : ℕ = from.granule in
      let o : Loaded = loaded_at state i in
      let at : ShowsAt image fetch dir main rule calls state i o = shows.each i none_loaded h.there in
      let b : IsBoundAt fetch dir main rule calls state i = at.bound in
      let s : Setting = setting_of rule (objects_of b.objects) b.start_count b.openings i in
      let shown : ImageObject = get_or image.objects i no_object in
      let sh : Shows image shown s o = at.shows in
      let rs : List Relocation = relocations_of (records_of o) in
      let count = shows.count in
      let within = h.there in
      let low = h.low in
      let high = h.high in
      let size = sh.size in
      let base = sh.base in
      let inside : i < length image.objects = omega (arith, count, within) in
      let pages : shown.base % 4096 ≡ 0 = (is.objects i no_object inside).base_in_pages in
      let parts = and_parts (g % 16 == 0) (tag_in image g) (granule-tagged laws.tagged image is from has) in
      let aligned : g % 16 ≡ 0 = eqb-true (g % 16) 0 parts.0 in
      let k : ℕ = (g - o.base) / 16 in
      let offset : 16 * k ≡ g - o.base = omega (arith, aligned, pages, base, low) in
      let place : o.base + 16 * k ≡ g = omega (arith, offset, low) in
      let some : list_any (names_at s (16 * k)) rs ≡ true = sym (sh.tags k (omega (arith, offset, high, size, low))) ∙ ap (tag_in image) place ∙ parts.1 in
      let one = any-passes (names_at s (16 * k)) rs some in
      let r : Relocation = one.one in
      let names = and_parts (is_some (named_cap s r)) ((slot_of r).0 == 16 * k) one.passes in
      let slot : (slot_of r).0 ≡ 16 * k = eqb-true (slot_of r).0 (16 * k) names.1 in
      let cap = some-cap (named_cap s r) names.0 in
      let c : Cap = cap.0 in
      let holds : has_slot r ≡ true → HoldsMeant s shown.bytes r = subst (λ (x : Relocation). has_slot x ≡ true → HoldsMeant s shown.bytes x) one.is (sh.slots one.place r one.within) in
      let word = word-meant s shown.bytes r c cap.1 (holds (slot-there s r names.0)) in
      let there : is_held g shown ≡ true = rw (le-leb shown.base g (omega (arith, base, low)), lt-ltb g (shown.base + length shown.bytes) (omega (arith, base, size, high))) refl in
      let found : object_at image g ≡ shown = laws.held image i g is inside there in
      let offset_is : g - shown.base ≡ (slot_of r).0 = omega (arith, slot, offset, base) in
      let word_is : from.word ≡ word_in shown.bytes (slot_of r).0 =
      word-of laws.listed image is from has ∙ ap (λ (x : ImageObject). word_in x.bytes (g - x.base)) found ∙ ap (word_in shown.bytes) offset_is in
      let fields : fields_of_cap c ≡ fields_of from.word = (laws.computed.fields (word_in shown.bytes (slot_of r).0) (fields_of_cap c)).0 word.stands ∙ ap fields_of (sym word_is) in
      let lies : is_within (fields_of_cap c) to ≡ true = ap (λ (f : Fields). is_within f to) fields ∙ (and_parts (may_load (fields_of from.word)) (is_within (fields_of from.word) to) loaded).1 in
      let bounds = and_parts (nat_le c.base to) (nat_le (to + 16) (c.base + c.len)) lies in
      let from_base = leb-true c.base to bounds.0 in
      let to_top = leb-true (to + 16) (c.base + c.len) bounds.1 in
      let root = word.narrowed.narrowed.within in
      let first = root.0 in
      let last = root.1 in (
        c.owner,
        record {
          cap = c;
          names = record { bound = b; relocation = r; is_its = (one.place, one.within, one.is); place = slot ∙ offset; named = cap.1 };
          owner = refl;
          low = from_base;
          high = to_top;
          lands = lands-later state b.objects b.later c.owner to b.begins (lands b.objects c.owner to (omega (arith, first, from_base)) (omega (arith, last, to_top)));
        },
      )
