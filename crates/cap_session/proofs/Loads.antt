-- Loading an object and all that is needed, and its undo.
use Rattle.std.proofs.Common.{append-nil, ◌≡◌, ℕ, ◌+◌, ◌-◌, ◌<◌, ◌≤◌, Bool, List, [], ◌∷◌, ◌++◌, length, map, take, drop, Option, Some, None, Result, Ok, Err, refl, sym, ap, ◌∙◌, subst, arith}
use Rattle.std.specs.Prelude.{All, IfSome, OnOk}
use Rattle.std.proofs.lemmas.List.{append_assoc, drop_at, length-append, length-map, map-append}
use Rattle.std.proofs.lemmas.Slice.Zip.{AllZip-long}
use Rattle.std.proofs.Math.Seq.{take-append_seam}
use Rattle.cap_base.specs.Outside.{Store}
use Rattle.cap_base.specs.Steps.{◌>>=◌}
use Rattle.cap_own.specs.Interval.{Interval, Cover}
use Rattle.cap_own.specs.Cap.{Mapping}
use Rattle.cap_elf.specs.DynView.{DynValue}
use Rattle.cap_mem.specs.Tagged.{TaggedMemory}
use Rattle.cap_session.specs.declared.refusal.OpenRefusal.{OpenRefusal}
use Rattle.cap_session.specs.Adding.{IsAdded, next_loaded, numbered_source}
use Rattle.cap_session.specs.Closing.{Begins, Behind, Closes, Goes, LoadsAll, LoadedAll, Stops, next_in, next_path}
use Rattle.cap_session.specs.Loading.{Loaded, closed, fetch_from, loaded_next, with_needed}
use Rattle.cap_session.specs.Mappings.{IsMemoryOf, spans_of}
use Rattle.cap_session.specs.Refused.{IsRefusedBy}
use Rattle.cap_session.specs.Roster.{RosterValue, Extends, Holds, IsClosed, IsRoster, Lists, Loads, cut_to, pad_start, placed_memory}
use Rattle.cap_session.proofs.Closings.{both_some, closed_none, count_is, lists_more, loaded_found, loaded_refused}
use Rattle.cap_session.proofs.Covers.{cover_one}
use Rattle.cap_session.proofs.OneMore.{if_some_map}
use Rattle.cap_session.proofs.Refusing.{bind_refused, refused_too}
use Rattle.cap_session.proofs.RosterLemmas.{deps_below, root_count, roster_with}
use Rattle.cap_session.proofs.Unanswered.{first_is, none_left}

lists_added : (told : Option Store) (name : List ℕ) (old mid : RosterValue) (h : IsAdded told (next_path old name) name old mid) (objects : List Loaded) → Lists old objects
    → Lists mid (objects ++ next_loaded old h.source name ∷ [])
lists_added told name old mid h objects lists =
    subst (λ (r : RosterValue). Lists r (objects ++ next_loaded old h.source name ∷ [])) (sym h.new_is) (lists_more old objects name h.source lists)

pub loaded_all : (told : Option Store) (name : List ℕ) (old mid new : RosterValue) → IsRoster old → IsAdded told (next_path old name) name old mid → Goes told mid new → IsRoster new → IsClosed new
    → (objects : List Loaded) → Lists old objects → LoadedAll told name old new objects
loaded_all told name old mid new sound h goes sound' all = λ objects lists.
    let o = next_loaded old h.source name in
    let t = goes (objects ++ o ∷ []) (lists_added told name old mid h objects lists) in
    let joined = append_assoc objects (o ∷ []) t.more in
    let dir : mid.dir ≡ old.dir = ap (λ (r : RosterValue). r.dir) h.new_is in
    record {
      more = o ∷ t.more;
      lists = subst (λ (os : List Loaded). Lists new os) joined t.lists;
      memories = t.memories ∙ ap (λ (r : RosterValue). r.memories ++ map placed_memory t.more) h.new_is ∙ append_assoc old.memories (placed_memory o ∷ []) (map placed_memory t.more);
      same =
          both_some (λ (store : Store). fetch_from store (next_path old name) ≡ Ok h.source)
          (λ (store : Store). closed (fetch_from store) mid.dir (objects ++ o ∷ []) ≡ closed (fetch_from store) mid.dir ((objects ++ o ∷ []) ++ t.more))
          (λ (store : Store). with_needed (fetch_from store) old.dir objects name ≡ Ok (objects ++ (o ∷ t.more))) told
          (λ store found same.
          ap (λ r. r >>= closed (fetch_from store) old.dir) (loaded_found store old objects name h.source sound lists h.few found h.fits)
          ∙ subst (λ (d : List ℕ). closed (fetch_from store) d (objects ++ o ∷ []) ≡ closed (fetch_from store) d ((objects ++ o ∷ []) ++ t.more)) dir same
          ∙ closed_none (256 - length ((objects ++ o ∷ []) ++ t.more)) (fetch_from store) old.dir ((objects ++ o ∷ []) ++ t.more) (first_is new ((objects ++ o ∷ []) ++ t.more) t.lists ∙ none_left new sound' all)
          ∙ ap Ok joined)
          h.found t.same;
    }

pub refused_first : (told : Option Store) (name : List ℕ) (old : RosterValue) (refusal : OpenRefusal) → IsRoster old
    → IfSome told (λ store. IsRefusedBy (next_in store old name) refusal refusal.cause)
    → (objects : List Loaded) → Lists old objects → IfSome told (λ store. IsRefusedBy (with_needed (fetch_from store) old.dir objects name) refusal refusal.cause)
refused_first told name old refusal sound h = λ objects lists.
    if_some_map (λ (store : Store). IsRefusedBy (next_in store old name) refusal refusal.cause) (λ (store : Store). IsRefusedBy (with_needed (fetch_from store) old.dir objects name) refusal refusal.cause) told
    (λ store by. refused_too (loaded_next (fetch_from store) old.dir objects name) (with_needed (fetch_from store) old.dir objects name) refusal refusal.cause
    (bind_refused (loaded_next (fetch_from store) old.dir objects name) (closed (fetch_from store) old.dir) refusal)
    (loaded_refused store old objects name refusal refusal.cause sound lists by)) h

pub refused_later : (told : Option Store) (name : List ℕ) (old mid : RosterValue) (refusal : OpenRefusal) → IsRoster old → IsAdded told (next_path old name) name old mid → Stops told mid refusal
    → (objects : List Loaded) → Lists old objects → IfSome told (λ store. IsRefusedBy (with_needed (fetch_from store) old.dir objects name) refusal refusal.cause)
refused_later told name old mid refusal sound h stops = λ objects lists.
    let o = next_loaded old h.source name in
    let dir : mid.dir ≡ old.dir = ap (λ (r : RosterValue). r.dir) h.new_is in
    both_some (λ (store : Store). fetch_from store (next_path old name) ≡ Ok h.source)
    (λ (store : Store). IsRefusedBy (closed (fetch_from store) mid.dir (objects ++ o ∷ [])) refusal refusal.cause)
    (λ (store : Store). IsRefusedBy (with_needed (fetch_from store) old.dir objects name) refusal refusal.cause) told
    (λ store found by.
    subst (λ (w : Result (List Loaded) OpenRefusal). IsRefusedBy w refusal refusal.cause)
    (sym (ap (λ r. r >>= closed (fetch_from store) old.dir) (loaded_found store old objects name h.source sound lists h.few found h.fits)))
    (subst (λ (d : List ℕ). IsRefusedBy (closed (fetch_from store) d (objects ++ o ∷ [])) refusal refusal.cause) dir by))
    h.found (stops (objects ++ o ∷ []) (lists_added told name old mid h objects lists))

pub more_added : (told : Option Store) (path name : List ℕ) (old mid new : RosterValue) → IsAdded told path name old mid → Behind mid new → length old.objects < length new.objects
more_added told path name old mid new h behind =
    let one = ap (λ (r : RosterValue). length r.objects) h.new_is in
    let two = length-append old.objects (numbered_source old h.source ∷ []) in
    let three = ap length behind.objects.1 in
    let four = length-append mid.objects behind.objects.0 in
    omega (arith, one, two, three, four)

take_front : {X : Type 0} (n : ℕ) (xs ys more : List X) → n ≡ length xs → ys ≡ xs ++ more → take n ys ≡ xs
take_front n xs ys more same is = ap (take n) is ∙ ap (λ k. take k (xs ++ more)) same ∙ take-append_seam xs more

pub memory_count : (r : RosterValue) → IsRoster r → length r.memories ≡ length r.objects
memory_count r h = AllZip-long IsMemoryOf r.roots r.memories h.memories_are ∙ root_count r h

pub symbol_count : (r : RosterValue) → IsRoster r → length r.symbols ≡ length r.objects
symbol_count r h = ap length h.symbols_are ∙ length-map (map (λ (o : DynValue). o.records) r.objects) _ ∙ length-map r.objects (λ (o : DynValue). o.records)

-- the first objects of the later roster are those of the earlier
pub front_is : (old new : RosterValue) (n next : ℕ) → IsRoster old → IsClosed old → Behind old new → n ≡ length old.objects → cut_to n new next ≡ record old { next = next }
front_is old new n next h all b at =
    let dir = b.dir in
    let objects = take_front n old.objects new.objects b.objects.0 at b.objects.1 in
    let names = take_front n old.names new.names b.names.0 (omega (arith, at, h.name_count)) b.names.1 in
    let deps = take_front n old.deps new.deps b.deps.0 (omega (arith, at, all)) b.deps.1 in
    let pads = take_front n old.pads new.pads b.pads.0 (omega (arith, at, h.pad_count)) b.pads.1 in
    let roots = take_front n old.roots new.roots b.roots.0 (omega (arith, at, root_count old h)) b.roots.1 in
    let memories = take_front n old.memories new.memories b.more (omega (arith, at, memory_count old h)) b.memories in
    let symbols = take_front n old.symbols new.symbols b.symbols.0 (omega (arith, at, symbol_count old h)) b.symbols.1 in
    ap (λ x. roster_with x (take n new.objects) (take n new.names) (take n new.deps) (take n new.pads) (take n new.roots) (take n new.memories) (take n new.symbols) next) dir
    ∙ ap (λ x. roster_with old.dir x (take n new.names) (take n new.deps) (take n new.pads) (take n new.roots) (take n new.memories) (take n new.symbols) next) objects
    ∙ ap (λ x. roster_with old.dir old.objects x (take n new.deps) (take n new.pads) (take n new.roots) (take n new.memories) (take n new.symbols) next) names
    ∙ ap (λ x. roster_with old.dir old.objects old.names x (take n new.pads) (take n new.roots) (take n new.memories) (take n new.symbols) next) deps
    ∙ ap (λ x. roster_with old.dir old.objects old.names old.deps x (take n new.roots) (take n new.memories) (take n new.symbols) next) pads
    ∙ ap (λ x. roster_with old.dir old.objects old.names old.deps old.pads x (take n new.memories) (take n new.symbols) next) roots
    ∙ ap (λ x. roster_with old.dir old.objects old.names old.deps old.pads old.roots x (take n new.symbols) next) memories
    ∙ ap (λ x. roster_with old.dir old.objects old.names old.deps old.pads old.roots old.memories x next) symbols

-- what is left of it is the earlier roster
pub undone : (old new : RosterValue) (n next : ℕ) → IsRoster old → IsClosed old → Behind old new → n ≡ length old.objects → IsRoster (cut_to n new next) → cut_to n new next ≡ old
undone old new n next h all b at left =
    let front = front_is old new n next h all b at in
    let covered : Cover 0x40000000 (spans_of old.pads old.roots) next = (subst (λ (r : RosterValue). IsRoster r) front left).covered in
    let same : next ≡ old.next = cover_one 0x40000000 next old.next (spans_of old.pads old.roots) covered h.covered in
    front ∙ ap (λ (x : ℕ). roster_with old.dir old.objects old.names old.deps old.pads old.roots old.memories old.symbols x) same

pub extends_from : (old new : RosterValue) → IsRoster old → IsClosed old → Behind old new → Extends old new
extends_from old new h all b = record {
  dir = b.dir;
  count = (let n = ap length b.objects.1 in let m = length-append old.objects b.objects.0 in omega (arith, n, m));
  first = front_is old new (length old.objects) old.next h all b refl;
}

pub deps_within : (old new : RosterValue) (n : ℕ) → IsRoster old → IsClosed old → Behind old new → n ≡ length old.objects → All (λ of. All (λ i. i < n) of) (take n new.deps)
deps_within old new n h all b at =
    let deps = take_front n old.deps new.deps b.deps.0 (omega (arith, at, all)) b.deps.1 in
    subst (λ (ds : List (List ℕ)). All (λ of. All (λ i. i < n) of) ds) (sym deps)
    (subst (λ (m : ℕ). All (λ of. All (λ i. i < m) of) old.deps) (sym at) (deps_below old h))

pub untagged_behind : (old new : RosterValue) → IsRoster old → Behind old new → All (λ m. m.words ≡ []) (drop (length old.objects) new.memories)
untagged_behind old new h b =
    subst (λ (ms : List TaggedMemory). All (λ m. m.words ≡ []) ms)
    (sym (ap (drop (length old.objects)) b.memories ∙ drop_at old.memories b.more (length old.objects) (memory_count old h))) b.untagged

pub loads_from : (told : Option Store) (name : List ℕ) (old new : RosterValue) (objects : List Loaded) → Lists old objects → LoadedAll told name old new objects
    → IfSome told (λ store. (os : List Loaded) × (with_needed (fetch_from store) old.dir objects name ≡ Ok os) × Holds (length old.objects) old new os)
loads_from told name old new objects lists h =
    if_some_map (λ (store : Store). with_needed (fetch_from store) old.dir objects name ≡ Ok (objects ++ h.more))
    (λ (store : Store). (os : List Loaded) × (with_needed (fetch_from store) old.dir objects name ≡ Ok os) × Holds (length old.objects) old new os) told
    (λ store same. (
      objects ++ h.more,
      same,
      record {
        lists = h.lists;
        memories_are = h.memories ∙ ap (λ (xs : List Loaded). old.memories ++ map placed_memory xs) (sym (drop_at objects h.more (length old.objects) (count_is old objects lists)));
      },
    )) h.same

-- how closing ends, after the first object was loaded
pub loads_close : {T : Type 0} (told : Option Store) (name : List ℕ) (old mid new : RosterValue) (result : Result T OpenRefusal) → IsRoster old → IsAdded told (next_path old name) name old mid
    → Closes told mid new result → IsRoster new → OnOk result (IsClosed new) → LoadsAll told name old new result
loads_close told name old mid new (Ok x) sound h closes sound' all = loaded_all told name old mid new sound h closes sound' all
loads_close told name old mid new (Err refusal) sound h closes sound' all = refused_later told name old mid refusal sound h closes
