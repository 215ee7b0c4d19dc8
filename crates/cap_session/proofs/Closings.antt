-- Closing, step by step.
use Rattle.std.proofs.Common.{append-nil, ◌≡◌, ℕ, zero, suc, ◌+◌, ◌-◌, ◌<◌, ◌≤◌, Bool, true, false, List, [], ◌∷◌, ◌++◌, length, get_or, map, take, drop, zip, Option, Some, None, Result, Ok, Err, refl, sym, ap, ◌∙◌, subst, arith}
use Rattle.std.specs.Prelude.{All, IfSome, ◌&&◌, ◌||◌, bytes_eq}
use Rattle.std.specs.List.{AllZip}
use Rattle.std.proofs.lemmas.List.{append_assoc, get_or_append_left, take_more, length-append, length-map, map-append}
use Rattle.std.proofs.lemmas.List.Elements.{All-append}
use Rattle.std.proofs.lemmas.Slice.Eq.{bytes_eq-Decides}
use Rattle.cap_base.specs.Outside.{Store}
use Rattle.cap_base.specs.Steps.{◌>>=◌}
use Rattle.cap_own.specs.Interval.{Interval, interval, Cover}
use Rattle.cap_own.specs.Cap.{Mapping}
use Rattle.cap_elf.specs.DynView.{DynRecords, DynValue}
use Rattle.cap_mem.specs.Tagged.{TaggedMemory}
use Rattle.cap_map.specs.Placing.{object_memory}
use Rattle.cap_scope.specs.Chosen.{no_records}
use Rattle.cap_session.specs.declared.refusal.OpenCause.{OpenCause}
use Rattle.cap_session.specs.declared.refusal.OpenRefusal.{OpenRefusal}
use Rattle.cap_session.specs.Adding.{IsAdded, next_base, next_loaded, numbered_source, with_object}
use Rattle.cap_session.specs.Closing.{Begins, Behind, Closes, Goes, Stops, Went, needed_by, next_in, next_path}
use Rattle.cap_session.specs.Loading.{Called, Fetch, Loaded, answer_among, has_soname, is_answer, Source, at_path, closed, closed_by, fetch_from, first_unanswered, loaded_next, next_free, next_object, path_of, records_of, refusal_as}
use Rattle.cap_session.specs.Mappings.{IsMappingOf, spans_of}
use Rattle.cap_session.specs.Refused.{IsRefusedBy}
use Rattle.cap_session.specs.Roster.{RosterValue, IsRoster, Lists, answerer_in, called_in, placed_memory, records_in}
use Rattle.cap_session.proofs.Answerers.{first_front, first_last, head_same, names_below, names_kept, tail_same}
use Rattle.cap_session.proofs.OneMore.{if_some_map, is_lt, next_found}
use Rattle.cap_session.proofs.Refusing.{as_refused, bind_refused, refused_too}
use Rattle.cap_session.proofs.RosterLemmas.{answerer_below, called_count, called_more, pads_roots}

ends_at : (start next : ℕ) (pads : List Interval) (roots : List Mapping) (o : Loaded) (objects : List Loaded) → length pads ≡ length roots → Cover start (spans_of pads roots) next
    → map (λ m. m.base) roots ≡ o.base ∷ map (λ o. o.base) objects → AllZip IsMappingOf (records_of o ∷ map records_of objects) roots → next_free (o ∷ objects) ≡ next
ends_at start next pads [] o objects same h bases are = absurd are
ends_at start next [] (r ∷ roots) o objects same h bases are = absurd (omega (arith, same))
ends_at start next (p ∷ pads) (r ∷ []) o [] same h bases are =
    let base : r.base ≡ o.base = head_same r.base o.base [] [] bases in
    let none : spans_of pads [] ≡ [] = no_spans pads (omega (arith, same)) in
    let «end» : r.base + r.len ≡ next = subst (λ (spans : List Interval). Cover (r.base + r.len) spans next) none h.1.1 in
    omega (arith, base, «end», are.0.size)
  where
    no_spans : (pads : List Interval) → length pads ≤ 0 → spans_of pads [] ≡ []
    no_spans [] low = refl
    no_spans (p ∷ pads) low = absurd (omega (arith, low))
ends_at start next (p ∷ pads) (r ∷ s ∷ roots) o [] same h bases are = absurd are.1
ends_at start next (p ∷ pads) (r ∷ roots) o (q ∷ objects) same h bases are =
    ends_at (r.base + r.len) next pads roots q objects (omega (arith, same)) h.1.1
    (tail_same r.base o.base (map (λ m. m.base) roots) (q.base ∷ map (λ o. o.base) objects) bases) are.1

-- the first free address is that of the roster
pub next_is : (r : RosterValue) (objects : List Loaded) → IsRoster r → Lists r objects → next_free objects ≡ r.next
next_is r [] h lists = start_is r.pads r.roots (pads_roots r h) (map_none r.roots lists.bases_are) h.covered
  where
    map_none : (roots : List Mapping) → map (λ m. m.base) roots ≡ [] → length roots ≤ 0
    map_none [] e = omega arith
    map_none (m ∷ roots) e = absurd cc

    start_is : (pads : List Interval) (roots : List Mapping) → length pads ≡ length roots → length roots ≤ 0 → Cover 0x40000000 (spans_of pads roots) r.next → 0x40000000 ≡ r.next
    start_is [] roots same low cover = cover
    start_is (p ∷ pads) roots same low cover = absurd (omega (arith, same, low))
next_is r (o ∷ objects) h lists =
    ends_at 0x40000000 r.next r.pads r.roots o objects (pads_roots r h) h.covered lists.bases_are
    (subst (λ (os : List DynRecords). AllZip IsMappingOf os r.roots) lists.records_are h.mappings_are)

pub count_is : (r : RosterValue) (objects : List Loaded) → Lists r objects → length objects ≡ length r.objects
count_is r objects h =
    sym (length-map objects records_of) ∙ sym (ap length h.records_are) ∙ length-map r.objects (λ (o : DynValue). o.records)

-- loading the next object, as the roster has it
pub loaded_is : (store : Store) (r : RosterValue) (objects : List Loaded) (name : List ℕ) → IsRoster r → Lists r objects
    → loaded_next (fetch_from store) r.dir objects name
    ≡ refusal_as (at_path (next_path r name)) (next_object (fetch_from store) (next_path r name) (length r.objects) r.next name >>= λ object. Ok (objects ++ object ∷ []))
loaded_is store r objects name h lists =
    ap (λ n. refusal_as (at_path (path_of r.dir n name)) (next_object (fetch_from store) (path_of r.dir n name) n (next_free objects) name >>= λ object. Ok (objects ++ object ∷ []))) (count_is r objects lists)
    ∙ ap (λ free. refusal_as (at_path (next_path r name)) (next_object (fetch_from store) (next_path r name) (length r.objects) free name >>= λ object. Ok (objects ++ object ∷ []))) (next_is r objects h lists)

pub loaded_found : (store : Store) (r : RosterValue) (objects : List Loaded) (name : List ℕ) (source : Source) → IsRoster r → Lists r objects → length r.objects < 256
    → fetch_from store (next_path r name) ≡ Ok source → next_base r source.records + source.records.span ≤ 0x44000000
    → loaded_next (fetch_from store) r.dir objects name ≡ Ok (objects ++ next_loaded r source name ∷ [])
loaded_found store r objects name source h lists few found fits =
    loaded_is store r objects name h lists
    ∙ ap (λ w. refusal_as (at_path (next_path r name)) (w >>= λ object. Ok (objects ++ object ∷ []))) (next_found (fetch_from store) (next_path r name) r name source few found fits)

pub loaded_refused : (store : Store) (r : RosterValue) (objects : List Loaded) (name : List ℕ) (refusal : OpenRefusal) (cause : OpenCause) → IsRoster r → Lists r objects
    → IsRefusedBy (next_in store r name) refusal cause → IsRefusedBy (loaded_next (fetch_from store) r.dir objects name) refusal cause
loaded_refused store r objects name refusal cause h lists by =
    let view = at_path (next_path r name) in
    let w = next_object (fetch_from store) (next_path r name) (length r.objects) r.next name in
    refused_too (next_in store r name) (loaded_next (fetch_from store) r.dir objects name) refusal cause
    (λ e. loaded_is store r objects name h lists ∙ as_refused view w (λ object. Ok (objects ++ object ∷ [])) refusal e) by

-- the roster with one object more lists it
pub lists_more : (r : RosterValue) (objects : List Loaded) (name : List ℕ) (source : Source) → Lists r objects
    → Lists (with_object r (numbered_source r source) name source.bytes) (objects ++ next_loaded r source name ∷ [])
lists_more r objects name source h =
    let o = next_loaded r source name in
    record {
      records_are =
          map-append (λ (o : DynValue). o.records) r.objects (numbered_source r source ∷ []) ∙ ap (λ os. os ++ source.records ∷ []) h.records_are
          ∙ sym (map-append records_of objects (o ∷ []));
      names_are =
          ap (λ (ns : List (List ℕ × Bool)). ns ++ (name, true) ∷ []) h.names_are ∙ sym (map-append (λ (o : Loaded). (o.name, true)) objects (o ∷ []));
      bases_are =
          map-append (λ (m : Mapping). m.base) r.roots (record { base = next_base r source.records; len = source.records.span; owner = length r.objects } ∷ [])
          ∙ ap (λ ns. ns ++ next_base r source.records ∷ []) h.bases_are
          ∙ sym (map-append (λ (o : Loaded). o.base) objects (o ∷ []));
    }

abbrev step_with : (Result (List Loaded) OpenRefusal) → (List Loaded → Result (List Loaded) OpenRefusal) → List Loaded → Option (List ℕ) → Result (List Loaded) OpenRefusal
step_with loaded on objects None = Ok objects
step_with loaded on objects (Some name) = loaded >>= on

pub closed_none : (n : ℕ) (fetch : Fetch) (dir : List ℕ) (objects : List Loaded) → first_unanswered objects ≡ None → closed_by n fetch dir objects ≡ Ok objects
closed_none zero fetch dir objects e = ap (λ o. elim o [ None ↦ Ok objects | Some name ↦ loaded_next fetch dir objects name ]) e
closed_none (suc n) fetch dir objects e = ap (λ o. elim o [ None ↦ Ok objects | Some name ↦ loaded_next fetch dir objects name >>= λ next. closed_by n fetch dir next ]) e

closed_some : (n : ℕ) (fetch : Fetch) (dir : List ℕ) (objects : List Loaded) (name : List ℕ) → first_unanswered objects ≡ Some name
    → closed_by (suc n) fetch dir objects ≡ (loaded_next fetch dir objects name >>= λ next. closed_by n fetch dir next)
closed_some n fetch dir objects name e = ap (λ o. elim o [ None ↦ Ok objects | Some name ↦ loaded_next fetch dir objects name >>= λ next. closed_by n fetch dir next ]) e

pub closed_step : (fetch : Fetch) (dir : List ℕ) (objects next : List Loaded) (name : List ℕ) → first_unanswered objects ≡ Some name → loaded_next fetch dir objects name ≡ Ok next
    → length next ≡ length objects + 1 → length objects < 256 → closed fetch dir objects ≡ closed fetch dir next
closed_step fetch dir objects next name e loaded one few =
    let fuel : 256 - length objects ≡ suc (256 - length next) = omega (arith, one, few) in
    ap (λ n. closed_by n fetch dir objects) fuel ∙ closed_some (256 - length next) fetch dir objects name e
    ∙ ap (λ r. r >>= λ all. closed_by (256 - length next) fetch dir all) loaded

pub closed_refused : (n : ℕ) (fetch : Fetch) (dir : List ℕ) (objects : List Loaded) (name : List ℕ) (refusal : OpenRefusal) (cause : OpenCause) → first_unanswered objects ≡ Some name
    → IsRefusedBy (loaded_next fetch dir objects name) refusal cause → IsRefusedBy (closed_by n fetch dir objects) refusal cause
closed_refused zero fetch dir objects name refusal cause e by =
    refused_too (loaded_next fetch dir objects name) (closed_by zero fetch dir objects) refusal cause
    (λ h. ap (λ o. elim o [ None ↦ Ok objects | Some name ↦ loaded_next fetch dir objects name ]) e ∙ h) by
closed_refused (suc n) fetch dir objects name refusal cause e by =
    refused_too (loaded_next fetch dir objects name) (closed_by (suc n) fetch dir objects) refusal cause
    (λ h. closed_some n fetch dir objects name e ∙ bind_refused (loaded_next fetch dir objects name) (λ next. closed_by n fetch dir next) refusal h) by

pub begins_refl : {X : Type 0} (xs : List X) → Begins xs xs
begins_refl xs = ([], sym (append-nil xs))

pub begins_trans : {X : Type 0} (xs ys zs : List X) → Begins xs ys → Begins ys zs → Begins xs zs
begins_trans xs ys zs f g = (f.0 ++ g.0, g.1 ∙ ap (λ ws. ws ++ g.0) f.1 ∙ append_assoc xs f.0 g.0)

pub behind_refl : (r : RosterValue) → Behind r r
behind_refl r = record {
  dir = refl;
  objects = begins_refl r.objects;
  names = begins_refl r.names;
  deps = begins_refl r.deps;
  pads = begins_refl r.pads;
  roots = begins_refl r.roots;
  symbols = begins_refl r.symbols;
  more = [];
  memories = sym (append-nil r.memories);
  untagged = λ k d lt. absurd (omega (arith, lt));
}

pub behind_trans : (a b c : RosterValue) → Behind a b → Behind b c → Behind a c
behind_trans a b c f g = record {
  dir = g.dir ∙ f.dir;
  objects = begins_trans a.objects b.objects c.objects f.objects g.objects;
  names = begins_trans a.names b.names c.names f.names g.names;
  deps = begins_trans a.deps b.deps c.deps f.deps g.deps;
  pads = begins_trans a.pads b.pads c.pads f.pads g.pads;
  roots = begins_trans a.roots b.roots c.roots f.roots g.roots;
  symbols = begins_trans a.symbols b.symbols c.symbols f.symbols g.symbols;
  more = f.more ++ g.more;
  memories = g.memories ∙ ap (λ ms. ms ++ g.more) f.memories ∙ append_assoc a.memories f.more g.more;
  untagged = All-append (λ m. m.words ≡ []) f.more g.more f.untagged g.untagged;
}

behind_object : (r : RosterValue) (object : DynValue) (name bytes : List ℕ) → Behind r (with_object r object name bytes)
behind_object r object name bytes =
    let base = next_base r object.records in
    record {
      dir = refl;
      objects = (object ∷ [], refl);
      names = ((name, true) ∷ [], refl);
      deps = begins_refl r.deps;
      pads = (interval r.next (base - r.next) ∷ [], refl);
      roots = (record { base = base; len = object.records.span; owner = length r.objects } ∷ [], refl);
      symbols = (_ ∷ [], refl);
      more = object_memory bytes object.records base ∷ [];
      memories = refl;
      untagged = one_untagged (object_memory bytes object.records base) refl;
    }
  where
    one_untagged : (m : TaggedMemory) → m.words ≡ [] → (k : ℕ) (d : TaggedMemory) → k < length (m ∷ []) → (get_or (m ∷ []) k d).words ≡ []
    one_untagged m h zero d lt = h
    one_untagged m h (suc k) d lt = absurd (omega (arith, lt))

pub behind_added : (told : Option Store) (path name : List ℕ) (old new : RosterValue) → IsAdded told path name old new → Behind old new
behind_added told path name old new h = subst (λ (r : RosterValue). Behind old r) (sym h.new_is) (behind_object old (numbered_source old h.source) name h.source.bytes)

-- the object that is loaded for the first name that is not answered
pub goes_added : (told : Option Store) (name : List ℕ) (old new : RosterValue) → IsRoster old → ((objects : List Loaded) → Lists old objects → first_unanswered objects ≡ Some name)
    → IsAdded told (next_path old name) name old new → Goes told old new
goes_added told name old new sound first h = λ objects lists.
    let o = next_loaded old h.source name in
    record {
      more = o ∷ [];
      lists = subst (λ (r : RosterValue). Lists r (objects ++ o ∷ [])) (sym h.new_is) (lists_more old objects name h.source lists);
      memories = ap (λ (r : RosterValue). r.memories) h.new_is;
      same =
          if_some_map (λ (store : Store). fetch_from store (next_path old name) ≡ Ok h.source) (λ (store : Store). closed (fetch_from store) old.dir objects ≡ closed (fetch_from store) old.dir (objects ++ o ∷ [])) told
          (λ store found. closed_step (fetch_from store) old.dir objects (objects ++ o ∷ []) name (first objects lists)
          (loaded_found store old objects name h.source sound lists h.few found h.fits) (length-append objects (o ∷ [])) (let n = count_is old objects lists in omega (arith, n, h.few)))
          h.found;
    }

-- the refusal of such an object
pub stops_refused : (told : Option Store) (name : List ℕ) (old : RosterValue) (refusal : OpenRefusal) → IsRoster old → ((objects : List Loaded) → Lists old objects → first_unanswered objects ≡ Some name)
    → IfSome told (λ store. IsRefusedBy (next_in store old name) refusal refusal.cause) → Stops told old refusal
stops_refused told name old refusal sound first h = λ objects lists.
    if_some_map (λ (store : Store). IsRefusedBy (next_in store old name) refusal refusal.cause) (λ (store : Store). IsRefusedBy (closed (fetch_from store) old.dir objects) refusal refusal.cause) told
    (λ store by. closed_refused (256 - length objects) (fetch_from store) old.dir objects name refusal refusal.cause (first objects lists)
    (loaded_refused store old objects name refusal refusal.cause sound lists by)) h

pub both_some : {X : Type 0} (P Q R : X → Type 0) (o : Option X) → ((x : X) → P x → Q x → R x) → IfSome o P → IfSome o Q → IfSome o R
both_some P Q R None f h g = tt
both_some P Q R (Some x) f h g = f x h g

pub goes_refl : (told : Option Store) (r : RosterValue) → Goes told r r
goes_refl told r = λ objects lists. record {
  more = [];
  lists = subst (λ (os : List Loaded). Lists r os) (sym (append-nil objects)) lists;
  memories = sym (append-nil r.memories);
  same = always (λ store. closed (fetch_from store) r.dir objects ≡ closed (fetch_from store) r.dir (objects ++ [])) told (λ store. ap (closed (fetch_from store) r.dir) (sym (append-nil objects)));
}
  where
    always : {X : Type 0} (P : X → Type 0) (o : Option X) → ((x : X) → P x) → IfSome o P
    always P None f = tt
    always P (Some x) f = f x

pub goes_trans : (told : Option Store) (a b c : RosterValue) → b.dir ≡ a.dir → Goes told a b → Goes told b c → Goes told a c
goes_trans told a b c dir f g = λ objects lists.
    let s = f objects lists in
    let t = g (objects ++ s.more) s.lists in
    let all = append_assoc objects s.more t.more in
    record {
      more = s.more ++ t.more;
      lists = subst (λ (os : List Loaded). Lists c os) all t.lists;
      memories = t.memories ∙ ap (λ ms. ms ++ map placed_memory t.more) s.memories ∙ append_assoc a.memories (map placed_memory s.more) (map placed_memory t.more)
          ∙ ap (λ ms. a.memories ++ ms) (sym (map-append placed_memory s.more t.more));
      same =
          both_some (λ (store : Store). closed (fetch_from store) a.dir objects ≡ closed (fetch_from store) a.dir (objects ++ s.more))
          (λ (store : Store). closed (fetch_from store) b.dir (objects ++ s.more) ≡ closed (fetch_from store) b.dir ((objects ++ s.more) ++ t.more))
          (λ (store : Store). closed (fetch_from store) a.dir objects ≡ closed (fetch_from store) a.dir (objects ++ (s.more ++ t.more))) told
          (λ store e1 e2. e1 ∙ subst (λ (d : List ℕ). closed (fetch_from store) d (objects ++ s.more) ≡ closed (fetch_from store) d ((objects ++ s.more) ++ t.more)) dir e2 ∙ ap (closed (fetch_from store) a.dir) all)
          s.same t.same;
    }

pub stops_later : (told : Option Store) (a b : RosterValue) (refusal : OpenRefusal) → b.dir ≡ a.dir → Goes told a b → Stops told b refusal → Stops told a refusal
stops_later told a b refusal dir f g = λ objects lists.
    let s = f objects lists in
    both_some (λ (store : Store). closed (fetch_from store) a.dir objects ≡ closed (fetch_from store) a.dir (objects ++ s.more))
    (λ (store : Store). IsRefusedBy (closed (fetch_from store) b.dir (objects ++ s.more)) refusal refusal.cause)
    (λ (store : Store). IsRefusedBy (closed (fetch_from store) a.dir objects) refusal refusal.cause) told
    (λ store e by. subst (λ (w : Result (List Loaded) OpenRefusal). IsRefusedBy w refusal refusal.cause) (sym e)
    (subst (λ (d : List ℕ). IsRefusedBy (closed (fetch_from store) d (objects ++ s.more)) refusal refusal.cause) dir by)) s.same (g (objects ++ s.more) s.lists)

bytes_same : (xs : List ℕ) → bytes_eq xs xs ≡ true
bytes_same xs = (bytes_eq-Decides xs xs).1 refl

-- what was loaded under a name answers to it, where none before did
pub newest_answers : (told : Option Store) (path name : List ℕ) (old new : RosterValue) → IsRoster old → 0 < length old.objects → IsAdded told path name old new
    → answerer_in old name ≡ None → answerer_in new name ≡ Some (length old.objects)
newest_answers told path name old new sound some h none =
    let o = numbered_source old h.source in
    let called : Called = (name, h.source.records) in
    let n = length old.objects in
    let yes : is_answer name (0 + n, called) ≡ true =
    ap (λ b. (b && bytes_eq name name) || has_soname name h.source.records.soname) (is_lt 0 (0 + n) (omega (arith, some)))
    ∙ ap (λ b. b || has_soname name h.source.records.soname) (bytes_same name) in
    ap (λ (r : RosterValue). answerer_in r name) h.new_is
    ∙ ap (λ cs. answer_among cs name) (called_more old sound o name h.source.bytes)
    ∙ first_last (is_answer name) 0 n (called_in old) called (sym (called_count old sound)) none yes

-- what stays where more objects come behind
pub needed_stays : (old new : RosterValue) (i : ℕ) → Behind old new → i < length old.objects → needed_by new i ≡ needed_by old i
needed_stays old new i h inside =
    let count = length-map old.objects (λ (o : DynValue). o.records) in
    ap (λ (os : List DynValue). (get_or (map (λ o. o.records) os) i no_records).needed) h.objects.1
    ∙ ap (λ (os : List DynRecords). (get_or os i no_records).needed) (map-append (λ (o : DynValue). o.records) old.objects h.objects.0)
    ∙ ap (λ (o : DynRecords). o.needed) (get_or_append_left (records_in old) (map (λ (o : DynValue). o.records) h.objects.0) no_records i (omega (arith, count, inside)))

zip_append : {X Y : Type 0} (xs : List X) (ys : List Y) (ps : List X) (qs : List Y) → length xs ≡ length ys → zip (xs ++ ps) (ys ++ qs) ≡ zip xs ys ++ zip ps qs
zip_append [] [] ps qs same = refl
zip_append [] (y ∷ ys) ps qs same = absurd (omega (arith, same))
zip_append (x ∷ xs) [] ps qs same = absurd (omega (arith, same))
zip_append (x ∷ xs) (y ∷ ys) ps qs same = ap (λ zs. (x, y) ∷ zs) (zip_append xs ys ps qs (omega (arith, same)))

pub answers_stay : (old new : RosterValue) → IsRoster old → Behind old new → (n : List ℕ) (i : ℕ) → answerer_in old n ≡ Some i → answerer_in new n ≡ Some i
answers_stay old new sound h n i e =
    let fst : List ℕ × Bool → List ℕ = λ m. m.0 in
    let rec : DynValue → DynRecords = λ o. o.records in
    let names = length-map old.names fst in
    let objects = length-map old.objects rec in
    ap (λ cs. answer_among cs n)
    (ap (λ (ms : List (List ℕ × Bool)). zip (map fst ms) (records_in new)) h.names.1
    ∙ ap (λ (os : List DynValue). zip (map fst (old.names ++ h.names.0)) (map rec os)) h.objects.1
    ∙ ap (λ (ms : List (List ℕ)). zip ms (map rec (old.objects ++ h.objects.0))) (map-append fst old.names h.names.0)
    ∙ ap (zip (map fst old.names ++ map fst h.names.0)) (map-append rec old.objects h.objects.0)
    ∙ zip_append (map fst old.names) (records_in old) (map fst h.names.0) (map rec h.objects.0) (omega (arith, names, objects, sound.name_count)))
    ∙ first_front (is_answer n) 0 (called_in old) (zip (map fst h.names.0) (map rec h.objects.0)) i e

-- one needed name more is answered
pub answered_more : (s new : RosterValue) (ns : List (List ℕ)) (of : List ℕ) (k d : ℕ) → IsRoster s → Behind s new → k < length ns
    → map (answerer_in s) (take k ns) ≡ map Some of → answerer_in new (get_or ns k []) ≡ Some d → map (answerer_in new) (take (k + 1) ns) ≡ map Some (of ++ d ∷ [])
answered_more s new ns of k d sound h low so_far here =
    let a = answerer_in new in
    ap (map a) (take_more ns k [] low) ∙ map-append a (take k ns) (get_or ns k [] ∷ [])
    ∙ ap (λ xs. xs ++ a (get_or ns k []) ∷ []) (names_kept (answerer_in s) a (λ i. i < length s.objects) (take k ns) of (λ n i p e. answers_stay s new sound h n i e) so_far
    (names_below (answerer_in s) (length s.objects) (take k ns) of (answerer_below s sound) so_far))
    ∙ ap (λ (x : Option ℕ). map Some of ++ x ∷ []) here ∙ sym (map-append Some of (d ∷ []))

pub goes_deps : (told : Option Store) (r : RosterValue) (deps : List (List ℕ)) → Goes told r (record r { deps = deps })
goes_deps told r deps = λ objects lists.
    let w = goes_refl told r objects lists in
    record {
      more = w.more;
      lists = record { records_are = w.lists.records_are; names_are = w.lists.names_are; bases_are = w.lists.bases_are };
      memories = w.memories;
      same = w.same;
    }

pub behind_deps : (r : RosterValue) (of : List ℕ) → Behind r (record r { deps = r.deps ++ of ∷ [] })
behind_deps r of = record {
  dir = refl;
  objects = begins_refl r.objects;
  names = begins_refl r.names;
  deps = (of ∷ [], refl);
  pads = begins_refl r.pads;
  roots = begins_refl r.roots;
  symbols = begins_refl r.symbols;
  more = [];
  memories = sym (append-nil r.memories);
  untagged = λ k d lt. absurd (omega (arith, lt));
}
