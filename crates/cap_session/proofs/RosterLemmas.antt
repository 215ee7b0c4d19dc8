-- The first parts alone, and one object more.
use Rattle.std.proofs.Common.{◌≡◌, ℕ, zero, suc, ◌+◌, ◌-◌, ◌<◌, ◌≤◌, Bool, true, List, [], ◌∷◌, ◌++◌, ◌%◌, length, get_or, map, take, zip, Option, Some, None, refl, sym, ap, ◌∙◌, subst, arith}
use Rattle.std.specs.Prelude.{All}
use Rattle.std.specs.List.{AllZip}
use Rattle.std.proofs.lemmas.List.{get_or-map, map-append, take_more, take-append-le, length-append, length-map, length-take, length-take-le, take_min}
use Rattle.std.proofs.Math.Seq.{take-append_seam}
use Rattle.std.proofs.lemmas.List.FromFn.{length-range_with_len}
use Rattle.std.proofs.lemmas.Slice.Zip.{length-zip}
use Rattle.std.proofs.lemmas.List.Elements.{All-take, All-push}
use Rattle.cap_own.specs.Interval.{Interval, interval, Cover}
use Rattle.cap_own.specs.Cap.{Mapping}
use Rattle.cap_elf.specs.DynView.{DynRecords, DynValue}
use Rattle.cap_base.specs.Lists.{numbers_between}
use Rattle.cap_elf.specs.IsRead.{IsRead}
use Rattle.cap_map.specs.Mapped.{mapped_byte}
use Rattle.cap_map.specs.Placing.{object_memory}
use Rattle.cap_mem.specs.Tagged.{TaggedMemory}
use Rattle.cap_scope.specs.Chosen.{no_records, object_at}
use Rattle.cap_session.specs.Adding.{next_base, with_object}
use Rattle.cap_session.specs.Closing.{needed_by}
use Rattle.cap_reloc.specs.Binding.{AreMappings, IsMapping}
use Rattle.cap_scope.specs.Candidates.{hash_table}
use Rattle.cap_session.specs.Mappings.{IsName, IsMappingOf, IsMemoryOf, spans_of}
use Rattle.cap_session.specs.Loading.{Called, answer_among, is_answer}
use Rattle.cap_session.specs.Roster.{RosterValue, IsRoster, DepsAnswer, answerer_in, called_in, cut_to, pad_start, records_in}
use Rattle.cap_session.proofs.Answerers.{first_below, first_front, first_taken, lists_below, lists_kept, zip_at, zip_push, zip_take}
use Rattle.cap_session.proofs.Covers.{ascend_from_cover, cover_order, cover_take, spans_more, start_room}

pub map_take : {X Y : Type 0} (f : X → Y) (n : ℕ) (xs : List X) → map f (take n xs) ≡ take n (map f xs)
map_take f zero xs = refl
map_take f (suc n) [] = refl
map_take f (suc n) (x ∷ xs) = ap (λ ys. f x ∷ ys) (map_take f n xs)

-- a roster by its parts
abbrev pub roster_with : List ℕ → List DynValue → List (List ℕ × Bool) → List (List ℕ) → List Interval → List Mapping → List TaggedMemory → List (List (List ℕ × Bool)) → ℕ → RosterValue
roster_with dir objects names deps pads roots memories symbols next = record {
  dir = dir;
  objects = objects;
  names = names;
  deps = deps;
  pads = pads;
  roots = roots;
  memories = memories;
  symbols = symbols;
  next = next;
}

pub take_less : {X : Type 0} (k n : ℕ) (xs : List X) → k ≤ n → take k (take n xs) ≡ take k xs
take_less zero n xs low = refl
take_less (suc k) zero xs low = absurd (omega (arith, low))
take_less (suc k) (suc n) [] low = refl
take_less (suc k) (suc n) (x ∷ xs) low = ap (λ ys. x ∷ ys) (take_less k n xs (omega (arith, low)))

pub AllZip-take : {X Y : Type 0} (R : X → Y → Type 0) (n : ℕ) (xs : List X) (ys : List Y) → AllZip R xs ys → AllZip R (take n xs) (take n ys)
AllZip-take R zero xs ys h = tt
AllZip-take R (suc n) [] [] h = tt
AllZip-take R (suc n) [] (y ∷ ys) h = absurd h
AllZip-take R (suc n) (x ∷ xs) [] h = absurd h
AllZip-take R (suc n) (x ∷ xs) (y ∷ ys) h = (h.0, AllZip-take R n xs ys h.1)

pub AreMappings-take : (n : ℕ) (objects : List DynRecords) (number : ℕ) (roots : List Mapping) → AreMappings objects number roots → AreMappings (take n objects) number (take n roots)
AreMappings-take zero objects number roots h = tt
AreMappings-take (suc n) [] number [] h = tt
AreMappings-take (suc n) [] number (r ∷ roots) h = absurd h
AreMappings-take (suc n) (o ∷ objects) number [] h = absurd h
AreMappings-take (suc n) (o ∷ objects) number (r ∷ roots) h = (h.0, AreMappings-take n objects (number + 1) roots h.1)

AreMappings-long : (objects : List DynRecords) (number : ℕ) (roots : List Mapping) → AreMappings objects number roots → length roots ≡ length objects
AreMappings-long [] number [] h = refl
AreMappings-long [] number (r ∷ roots) h = absurd h
AreMappings-long (o ∷ objects) number [] h = absurd h
AreMappings-long (o ∷ objects) number (r ∷ roots) h = (let rest = AreMappings-long objects (number + 1) roots h.1 in omega (arith, rest))

pub root_count : (r : RosterValue) → IsRoster r → length r.roots ≡ length r.objects
root_count r h = AreMappings-long (records_in r) 0 r.roots h.mappings ∙ length-map r.objects (λ (o : DynValue). o.records)

pub pads_roots : (r : RosterValue) → IsRoster r → length r.pads ≡ length r.roots
pads_roots r h = h.pad_count ∙ sym (root_count r h)

-- an object that answers is one of the roster's
pub answerer_below : (r : RosterValue) → IsRoster r → (name : List ℕ) (i : ℕ) → answerer_in r name ≡ Some i → i < length r.objects
answerer_below r h name i e =
    let low = first_below (is_answer name) 0 (called_in r) i e in
    let n = length-map r.names (λ (n : List ℕ × Bool). n.0) in
    let z = length-zip (map (λ (n : List ℕ × Bool). n.0) r.names) (records_in r) in
    omega (arith, low, z, n, h.name_count)

-- each dependency is one of the roster's
pub deps_below : (r : RosterValue) → IsRoster r → All (λ of. All (λ i. i < length r.objects) of) r.deps
deps_below r h = lists_below (answerer_in r) (length r.objects) (take (length r.deps) (records_in r)) r.deps (answerer_below r h) h.deps_answer

answerer_first : (r : RosterValue) (len next : ℕ) (name : List ℕ) (i : ℕ) → i < len → answerer_in r name ≡ Some i → answerer_in (cut_to len r next) name ≡ Some i
answerer_first r len next name i low e =
    ap (λ cs. answer_among cs name)
    (ap (λ ns. zip ns (map (λ (o : DynValue). o.records) (take len r.objects))) (map_take (λ (n : List ℕ × Bool). n.0) len r.names)
    ∙ ap (zip (take len (map (λ (n : List ℕ × Bool). n.0) r.names))) (map_take (λ (o : DynValue). o.records) len r.objects)
    ∙ zip_take len (map (λ (n : List ℕ × Bool). n.0) r.names) (records_in r))
    ∙ first_taken (is_answer name) 0 len (called_in r) i low e

deps_first : (r : RosterValue) (len next : ℕ) → IsRoster r → All (λ of. All (λ i. i < len) of) (take len r.deps) → DepsAnswer (cut_to len r next)
deps_first r len next h within =
    let k = length (take len r.deps) in
    let a = answerer_in r in
    let few : take k (take (length r.deps) (records_in r)) ≡ take k (map (λ (o : DynValue). o.records) (take len r.objects)) =
    take_less k (length r.deps) (records_in r) (omega (arith, length-take len r.deps))
    ∙ sym (ap (take k) (map_take (λ (o : DynValue). o.records) len r.objects) ∙ take_less k len (records_in r) (omega (arith, length-take len r.deps))) in
    let same : take k r.deps ≡ take len r.deps = ap (λ n. take n r.deps) (length-take len r.deps) ∙ take_min len r.deps in
    let old : map (λ o. map a o.needed) (take k (map (λ (o : DynValue). o.records) (take len r.objects))) ≡ map (map Some) (take len r.deps) =
    ap (map (λ o. map a o.needed)) (sym few) ∙ map_take (λ o. map a o.needed) k (take (length r.deps) (records_in r)) ∙ ap (take k) h.deps_answer
    ∙ sym (map_take (map Some) k r.deps) ∙ ap (map (map Some)) same in
    lists_kept a (answerer_in (cut_to len r next)) (λ i. i < len) (take k (map (λ (o : DynValue). o.records) (take len r.objects))) (take len r.deps)
    (λ name i low e. answerer_first r len next name i low e) old within

-- the first objects alone
pub roster_first : (r : RosterValue) (len : ℕ) → IsRoster r → len ≤ length r.objects → All (λ of. All (λ i. i < len) of) (take len r.deps) → IsRoster (cut_to len r (pad_start len r))
roster_first r len h few within =
    let objects : length (take len r.objects) ≡ len = length-take-le len r.objects few in
    let records = map_take (λ (o : DynValue). o.records) len r.objects in
    let covered = cover_take 0x40000000 r.next len r.pads r.roots (pads_roots r h) h.covered in
    let same = pads_roots r h in
    let room : pad_start len r ≤ 0x44000000 = start_room 0x40000000 r.next len r.pads r.roots same h.covered 0x44000000 h.room in
    let memories = AllZip-take IsMemoryOf len r.roots r.memories h.memories_are in
    let pads = length-take-le len r.pads (omega (arith, few, h.pad_count)) in
    let roots = length-take-le len r.roots (omega (arith, few, root_count r h)) in
    record {
      few = omega (arith, objects, h.few, few);
      name_count = length-take-le len r.names (omega (arith, few, h.name_count)) ∙ sym objects;
      dep_count = omega (arith, objects, length-take len r.deps);
      pad_count = pads ∙ sym objects;
      names_are = All-take (λ n. IsName n.0) len r.names h.names_are;
      deps_answer = deps_first r len (pad_start len r) h within;
      mappings = subst (λ (os : List DynRecords). AreMappings os 0 (take len r.roots)) (sym records) (AreMappings-take len (records_in r) 0 r.roots h.mappings);
      mappings_are = subst (λ (os : List DynRecords). AllZip IsMappingOf os (take len r.roots)) (sym records) (AllZip-take IsMappingOf len (records_in r) r.roots h.mappings_are);
      memories_are = memories;
      covered = covered;
      room = room;
      ascending = ascend_from_cover 0x40000000 (pad_start len r) (take len r.pads) (take len r.roots) (take len r.memories) (pads ∙ sym roots) covered memories 0x44000000 room;
      symbols_are =
          ap (take len) h.symbols_are
          ∙ sym (map_take (λ o. (hash_table o).names) len (records_in r))
          ∙ ap (map (λ o. (hash_table o).names)) (sym records);
    }

pub called_count : (r : RosterValue) → IsRoster r → length (called_in r) ≡ length r.objects
called_count r h =
    let n = length-map r.names (λ (n : List ℕ × Bool). n.0) in
    let o = length-map r.objects (λ (o : DynValue). o.records) in
    let z = length-zip (map (λ (n : List ℕ × Bool). n.0) r.names) (records_in r) in
    omega (arith, z, n, o, h.name_count)

pub called_at : (r : RosterValue) → IsRoster r → (i : ℕ) (d : Called) (n : List ℕ × Bool) (o : DynValue) → i < length r.objects
    → get_or (called_in r) i d ≡ ((get_or r.names i n).0, (get_or r.objects i o).records)
called_at r h i d n o lt =
    let names = length-map r.names (λ (n : List ℕ × Bool). n.0) in
    let objects = length-map r.objects (λ (o : DynValue). o.records) in
    zip_at (map (λ (n : List ℕ × Bool). n.0) r.names) (records_in r) i d n.0 o.records (omega (arith, names, h.name_count, lt)) (omega (arith, objects, lt))
    ∙ ap (λ (x : List ℕ). (x, get_or (records_in r) i o.records)) (get_or-map (λ (n : List ℕ × Bool). n.0) r.names i n n.0 (omega (arith, h.name_count, lt)))
    ∙ ap (λ (x : DynRecords). ((get_or r.names i n).0, x)) (get_or-map (λ (o : DynValue). o.records) r.objects i o o.records lt)

pub AreMappings-push : (objects : List DynRecords) (number : ℕ) (roots : List Mapping) (object : DynRecords) (root : Mapping) → AreMappings objects number roots
    → IsMapping object (number + length objects) root → AreMappings (objects ++ object ∷ []) number (roots ++ root ∷ [])
AreMappings-push [] number [] object root h is = (record { size = is.size; aligned = is.aligned; owner = omega (arith, is.owner) }, tt)
AreMappings-push [] number (r ∷ roots) object root h is = absurd h
AreMappings-push (o ∷ objects) number [] object root h is = absurd h
AreMappings-push (o ∷ objects) number (r ∷ roots) object root h is =
    (h.0, AreMappings-push objects (number + 1) roots object root h.1 (record { size = is.size; aligned = is.aligned; owner = omega (arith, is.owner) }))

pub AllZip_push : {X Y : Type 0} (R : X → Y → Type 0) (xs : List X) (ys : List Y) (x : X) (y : Y) → AllZip R xs ys → R x y → AllZip R (xs ++ x ∷ []) (ys ++ y ∷ [])
AllZip_push R [] [] x y h r = (r, tt)
AllZip_push R [] (b ∷ ys) x y h r = absurd h
AllZip_push R (a ∷ xs) [] x y h r = absurd h
AllZip_push R (a ∷ xs) (b ∷ ys) x y h r = (h.0, AllZip_push R xs ys x y h.1 r)

pub records_more : (r : RosterValue) (object : DynValue) (name bytes : List ℕ) → records_in (with_object r object name bytes) ≡ records_in r ++ object.records ∷ []
records_more r object name bytes = map-append (λ (o : DynValue). o.records) r.objects (object ∷ [])

pub called_more : (r : RosterValue) → IsRoster r → (object : DynValue) (name bytes : List ℕ) → called_in (with_object r object name bytes) ≡ called_in r ++ (name, object.records) ∷ []
called_more r h object name bytes =
    let names = length-map r.names (λ (n : List ℕ × Bool). n.0) in
    let objects = length-map r.objects (λ (o : DynValue). o.records) in
    ap (λ (ns : List (List ℕ)). zip ns (records_in (with_object r object name bytes))) (map-append (λ (n : List ℕ × Bool). n.0) r.names ((name, true) ∷ []))
    ∙ ap (zip (map (λ (n : List ℕ × Bool). n.0) r.names ++ name ∷ [])) (records_more r object name bytes)
    ∙ zip_push (map (λ (n : List ℕ × Bool). n.0) r.names) (records_in r) name object.records (omega (arith, names, objects, h.name_count))

-- an object that answers still does where more come behind
pub answerer_more : (r : RosterValue) → IsRoster r → (object : DynValue) (name bytes : List ℕ) (n : List ℕ) (i : ℕ) → answerer_in r n ≡ Some i → answerer_in (with_object r object name bytes) n ≡ Some i
answerer_more r h object name bytes n i e =
    ap (λ cs. answer_among cs n) (called_more r h object name bytes) ∙ first_front (is_answer n) 0 (called_in r) ((name, object.records) ∷ []) i e

deps_more : (r : RosterValue) → IsRoster r → (object : DynValue) (name bytes : List ℕ) → DepsAnswer (with_object r object name bytes)
deps_more r h object name bytes =
    let k = length r.deps in
    let a = answerer_in (with_object r object name bytes) in
    let objects = length-map r.objects (λ (o : DynValue). o.records) in
    ap (λ os. map (λ o. map a o.needed) (take k os)) (records_more r object name bytes)
    ∙ ap (map (λ o. map a o.needed)) (take-append-le k (records_in r) (object.records ∷ []) (omega (arith, objects, h.dep_count)))
    ∙ lists_kept (answerer_in r) a (λ i. i < length r.objects) (take k (records_in r)) r.deps (λ n i low e. answerer_more r h object name bytes n i e) h.deps_answer (deps_below r h)

-- one object more
pub roster_more : (r : RosterValue) (object : DynValue) (name bytes : List ℕ) → IsRoster r → IsRead object.records → IsName name → length r.objects < 256
    → next_base r object.records % object.records.align ≡ 0 → r.next ≤ next_base r object.records → next_base r object.records + object.records.span ≤ 0x44000000
    → IsRoster (with_object r object name bytes)
roster_more r object name bytes h read named few aligned from fits =
    let base = next_base r object.records in
    let pad = interval r.next (base - r.next) in
    let root : Mapping = record { base = base; len = object.records.span; owner = length r.objects } in
    let memory = object_memory bytes object.records base in
    let objects = length-append r.objects (object ∷ []) in
    let records = records_more r object name bytes in
    let count = length-map r.objects (λ (o : DynValue). o.records) in
    let long : length memory.bytes ≡ object.records.span =
    length-map (numbers_between 0 object.records.span) (mapped_byte bytes object.records.segments) ∙ length-range_with_len 0 (object.records.span - 0) ∙ omega arith in
    let covered = spans_more 0x40000000 r.next r.pads r.roots pad root (pads_roots r h) h.covered refl (omega (arith, from)) in
    let memories = AllZip_push IsMemoryOf r.roots r.memories root memory h.memories_are (refl, long) in
    let pads = length-append r.pads (pad ∷ []) in
    let roots = length-append r.roots (root ∷ []) in
    let same = pads_roots r h in
    record {
      few = omega (arith, objects, few);
      name_count = (let names = length-append r.names ((name, true) ∷ []) in omega (arith, names, objects, h.name_count));
      dep_count = omega (arith, objects, h.dep_count);
      pad_count = omega (arith, pads, objects, h.pad_count);
      names_are = All-push (λ n. IsName n.0) r.names (name, true) h.names_are named;
      deps_answer = deps_more r h object name bytes;
      mappings =
          subst (λ (os : List DynRecords). AreMappings os 0 (r.roots ++ root ∷ [])) (sym records)
          (AreMappings-push (records_in r) 0 r.roots object.records root h.mappings (record { size = refl; aligned = aligned; owner = omega (arith, count) }));
      mappings_are =
          subst (λ (os : List DynRecords). AllZip IsMappingOf os (r.roots ++ root ∷ [])) (sym records)
          (AllZip_push IsMappingOf (records_in r) r.roots object.records root h.mappings_are (record { size = refl; positive = read.span_some; aligned = aligned }));
      memories_are = memories;
      covered = covered;
      room = fits;
      ascending = ascend_from_cover 0x40000000 (base + object.records.span) (r.pads ++ pad ∷ []) (r.roots ++ root ∷ []) (r.memories ++ memory ∷ []) (omega (arith, pads, roots, same)) covered memories 0x44000000 fits;
      symbols_are =
          ap (λ ns. ns ++ (hash_table object.records).names ∷ []) h.symbols_are
          ∙ sym (map-append (λ o. (hash_table o).names) (records_in r) (object.records ∷ []))
          ∙ ap (map (λ o. (hash_table o).names)) (sym records);
    }

abbrev mapping : ℕ → ℕ → ℕ → Mapping
mapping base len owner = record { base = base; len = len; owner = owner }

-- a mapping by its interval and its owner
pub mapping_is : (root : Mapping) (base len owner : ℕ) → interval root.base root.len ≡ interval base len → root.owner ≡ owner → root ≡ record { base = base; len = len; owner = owner }
mapping_is root base len owner body owned =
    ap (λ x. mapping x root.len root.owner) (ap (λ (i : Interval). i.base) body)
    ∙ ap (λ x. mapping base x root.owner) (ap (λ (i : Interval). i.len) body)
    ∙ ap (mapping base len) owned

-- a list without what was put behind it
pub take_back : {X : Type 0} (n : ℕ) (xs : List X) (y : X) → n ≡ length xs → take n (xs ++ y ∷ []) ≡ xs
take_back n xs y same = ap (λ k. take k (xs ++ y ∷ [])) same ∙ take-append_seam xs (y ∷ [])

-- the list of the first object that has none is entered
pub roster_enter : (r : RosterValue) (of : List ℕ) → IsRoster r → length r.deps < length r.objects → map (answerer_in r) (needed_by r (length r.deps)) ≡ map Some of
    → IsRoster (record r { deps = r.deps ++ of ∷ [] })
roster_enter r of h inside answer =
    let k = length r.deps in
    let count = length-map r.objects (λ (o : DynValue). o.records) in
    let f : DynRecords → List (Option ℕ) = λ o. map (answerer_in r) o.needed in
    let one = length-append r.deps (of ∷ []) in
    record {
      few = h.few;
      name_count = h.name_count;
      dep_count = omega (arith, one, inside);
      pad_count = h.pad_count;
      names_are = h.names_are;
      deps_answer =
          ap (λ n. map f (take n (records_in r))) one
          ∙ ap (map f) (take_more (records_in r) k no_records (omega (arith, count, inside)))
          ∙ map-append f (take k (records_in r)) (object_at (records_in r) k ∷ [])
          ∙ ap (λ xs. xs ++ f (object_at (records_in r) k) ∷ []) h.deps_answer
          ∙ ap (λ (x : List (Option ℕ)). map (map Some) r.deps ++ x ∷ []) answer
          ∙ sym (map-append (map Some) r.deps (of ∷ []));
      mappings = h.mappings;
      mappings_are = h.mappings_are;
      memories_are = h.memories_are;
      covered = h.covered;
      room = h.room;
      ascending = h.ascending;
      symbols_are = h.symbols_are;
    }
