-- The state that a session stands for after a start, and after a call.
use Rattle.std.proofs.Common.{◌≡◌, ℕ, suc, zero, ◌+◌, ◌-◌, ◌<◌, ◌≤◌, Bool, true, false, List, [], ◌∷◌, ◌++◌, length, take, drop, refl, ap, sym, ◌∙◌, subst, append-nil, arith}
use Rattle.std.specs.Prelude.{All, Option, Some, None, IfSome, is_some, unwrap_or, Result, Ok, Err, map, zip, if◌then◌else◌}
use Rattle.std.proofs.lemmas.List.{length-map, length-append, drop_all, length-take}
use Rattle.std.proofs.lemmas.List.Elements.{All-nil}
use Rattle.cap_base.specs.Steps.{◌>>=◌, gather}
use Rattle.cap_base.specs.Lists.{numbers_between}
use Rattle.cap_mem.specs.Tagged.{TaggedMemory}
use Rattle.cap_reloc.specs.Wanted.{Pair}
use Rattle.cap_scope.specs.declared.choice.Rule.{Rule}
use Rattle.cap_scope.specs.Tree.{tree_of}
use Rattle.cap_session.specs.declared.refusal.Mode.{Mode}
use Rattle.cap_session.specs.declared.refusal.OpenRefusal.{OpenRefusal}
use Rattle.cap_session.specs.declared.scope.LookUp.{LookUp}
use Rattle.cap_session.specs.Binding.{Objects, RelocatesFrom, StaysBelow, objects_in, objects_of, pairs_for, pairs_from, relocated}
use Rattle.cap_session.specs.Endings.{Reaches}
use Rattle.cap_session.specs.Entering.{opening_in, start_between}
use Rattle.cap_session.specs.Kept.{session_with}
use Rattle.cap_session.specs.Loading.{Fetch, Loaded, answerer, dependencies, records_of, with_named, with_needed}
use Rattle.cap_session.specs.Refused.{IsRefusedBy}
use Rattle.cap_session.specs.Roster.{RosterValue, Extends, Holds, IsClosed, IsRoster, Lists, Loads, answerer_in, empty_roster, placed_memory, records_in}
use Rattle.cap_session.specs.Scope.{Opening}
use Rattle.cap_session.specs.Session.{StandsFor}
use Rattle.cap_session.specs.State.{State, memory_of, opened, opening_of, started}
use Rattle.cap_session.proofs.Answering.{answerer-same, deps-same, objects_same}
use Rattle.cap_session.proofs.Begins.{with_named-Begins}
use Rattle.cap_session.proofs.Memories.{memory_count}
use Rattle.cap_session.proofs.Refusals.{refused_bind}
use Rattle.cap_session.proofs.Standing.{memories-stand, pairs-count}

pub some_weaker : {X : Type 0} (o : Option X) (P Q : X → Type 0) → ((x : X) → P x → Q x) → IfSome o P → IfSome o Q
some_weaker None P Q f h = tt
some_weaker (Some x) P Q f h = f x h

pub some_all : {X : Type 0} (o : Option X) (P : X → Type 0) → ((x : X) → P x) → IfSome o P
some_all None P f = tt
some_all (Some x) P f = f x

pub pairs_same : (rule rule' : Rule) (dir dir' : List ℕ) (objects objects' : Objects) (start_count start_count' : ℕ) (openings openings' : List Opening) (from from' : ℕ)
    → rule ≡ rule' → dir ≡ dir' → objects ≡ objects' → start_count ≡ start_count' → openings ≡ openings' → from ≡ from'
    → pairs_from rule dir objects start_count openings from ≡ pairs_from rule' dir' objects' start_count' openings' from'
pairs_same rule rule' dir dir' objects objects' sc sc' os os' from from' a b c d e f =
    ap (λ (x : Rule). pairs_from x dir objects sc os from) a
    ∙ (ap (λ (x : List ℕ). pairs_from rule' x objects sc os from) b
    ∙ (ap (λ (x : Objects). pairs_from rule' dir' x sc os from) c
    ∙ (ap (λ (x : ℕ). pairs_from rule' dir' objects' x os from) d
    ∙ (ap (λ (x : List Opening). pairs_from rule' dir' objects' sc' x from) e
    ∙ ap (λ (x : ℕ). pairs_from rule' dir' objects' sc' os' x) f))))

-- a session that was relocated stands for the state
stands : (now grown : RosterValue) (look_up : LookUp) (starts : List ℕ) (objects : List Loaded) (pairs more : List (List Pair)) (openings : List Opening) (start_count : ℕ) (starts' : List ℕ) (n : ℕ) (olds : List TaggedMemory)
    → IsRoster grown → IsClosed grown → Lists grown objects → now ≡ record grown { memories = now.memories }
    → n ≤ length objects → length pairs ≡ n → length olds ≡ n → length more ≡ length objects - n
    → olds ≡ map memory_of (zip (take n objects) pairs) → grown.memories ≡ olds ++ map placed_memory (drop n objects) → now.memories ≡ take n grown.memories ++ relocated more (drop n grown.memories)
    → look_up.openings.items ≡ openings → look_up.start_count ≡ start_count → starts ≡ starts'
    → StandsFor (session_with now look_up starts) (record { objects = objects; pairs = pairs ++ more; openings = openings; start_count = start_count; starts = starts' })
stands now grown look_up starts objects pairs more openings start_count starts' n olds h closed lists rest fits some here count stand placed new eo es est = record {
  objects_are = ap records_in rest ∙ lists.records_are;
  names_are = ap (λ (r : RosterValue). r.names) rest ∙ lists.names_are;
  bases_are = ap (λ (r : RosterValue). map (λ m. m.base) r.roots) rest ∙ lists.bases_are;
  deps_are = ap (λ (r : RosterValue). r.deps) rest ∙ deps-same grown objects h closed lists;
  pair_count = omega (arith, length-append pairs more, some, count, fits);
  openings_are = eo;
  start_count_is = es;
  starts_are = est;
  memories_are = memories-stand objects n pairs more olds grown.memories now.memories fits some here count stand placed new;
}

object-count : (r : RosterValue) (objects : List Loaded) → Lists r objects → length r.objects ≡ length objects
object-count r objects h = sym (length-map r.objects (λ o. o.records)) ∙ (ap (λ (rs : List _). length rs) h.records_are ∙ length-map objects records_of)

-- the state after a start, once the objects are known
abbrev after_start : Rule → List ℕ → Result (List Loaded) OpenRefusal → Result State OpenRefusal
after_start rule dir found = found >>= λ objects. pairs_from rule dir (objects_of objects) (length objects) [] 0 >>= λ pairs. Ok (record { objects = objects; pairs = pairs; openings = []; start_count = length objects; starts = 0 ∷ [] })

pub start_unloaded : (fetch : Fetch) (dir main : List ℕ) (rule : Rule) (refusal : OpenRefusal) → IsRefusedBy (with_needed fetch dir [] main) refusal refusal.cause → IsRefusedBy (started fetch dir main rule) refusal refusal.cause
start_unloaded fetch dir main rule refusal h =
    refused_bind (with_needed fetch dir [] main) (λ objects. after_start rule dir (Ok objects)) refusal refusal.cause h

pub start_ok : (fetch : Fetch) (dir main : List ℕ) (rule : Rule) (empty grown now : RosterValue) (look_up : LookUp) (objects : List Loaded)
    → with_needed fetch dir [] main ≡ Ok objects → empty.memories ≡ [] → Holds 0 empty grown objects → IsRoster grown → IsClosed grown → grown.dir ≡ dir
    → look_up.rule ≡ rule → look_up.start_count ≡ length grown.objects → look_up.openings.items ≡ []
    → RelocatesFrom {T = Unit {0}} (pairs_from look_up.rule grown.dir (objects_in grown) look_up.start_count look_up.openings.items 0) 0 grown now (Ok tt) → StaysBelow 0 grown now
    → Reaches (session_with now look_up (0 ∷ [])) (started fetch dir main rule)
start_ok fetch dir main rule empty grown now look_up objects wanted none holds h closed ed er es eo rel stays =
    let count = object-count grown objects holds.lists in
    let same = pairs_same look_up.rule rule grown.dir dir (objects_in grown) (objects_of objects) look_up.start_count (length objects) look_up.openings.items [] 0 0 er ed (objects_same grown objects holds.lists) (es ∙ count) eo refl in
    let said = sym same ∙ rel.1 in
    let state : State = record { objects = objects; pairs = rel.0; openings = []; start_count = length objects; starts = 0 ∷ [] } in
    let is : started fetch dir main rule ≡ Ok state =
    ap (λ (r : Result (List Loaded) OpenRefusal). r >>= λ objects. pairs_from rule dir (objects_of objects) (length objects) [] 0 >>= λ pairs. Ok (record { objects = objects; pairs = pairs; openings = []; start_count = length objects; starts = 0 ∷ [] })) wanted
    ∙ ap (λ (r : Result (List (List Pair)) OpenRefusal). r >>= λ pairs. Ok (record { objects = objects; pairs = pairs; openings = []; start_count = length objects; starts = 0 ∷ [] })) said in
    let long = pairs-count (pairs_for rule dir (objects_of objects) (length objects) []) 0 (length (map records_of objects)) rel.0 said in
    let more : length rel.0 ≡ length objects - 0 = omega (arith, long, length-map objects records_of) in
    let placed : grown.memories ≡ [] ++ map placed_memory (drop 0 objects) = holds.memories_are ∙ ap (λ (ms : List TaggedMemory). ms ++ map placed_memory (drop 0 objects)) none in
    let low : 0 ≤ length objects = omega arith in
    (state, is, stands now grown look_up (0 ∷ []) objects [] rel.0 [] (length objects) (0 ∷ []) 0 [] h closed holds.lists stays.rest low refl refl more refl placed rel.2 eo (es ∙ count) refl)

pub start_err : (fetch : Fetch) (dir main : List ℕ) (rule : Rule) (grown : RosterValue) (look_up : LookUp) (objects : List Loaded) (refusal : OpenRefusal)
    → with_needed fetch dir [] main ≡ Ok objects → Lists grown objects → grown.dir ≡ dir
    → look_up.rule ≡ rule → look_up.start_count ≡ length grown.objects → look_up.openings.items ≡ []
    → IsRefusedBy (pairs_from look_up.rule grown.dir (objects_in grown) look_up.start_count look_up.openings.items 0) refusal refusal.cause
    → IsRefusedBy (started fetch dir main rule) refusal refusal.cause
start_err fetch dir main rule grown look_up objects refusal wanted lists ed er es eo h =
    let count = object-count grown objects lists in
    let same = pairs_same look_up.rule rule grown.dir dir (objects_in grown) (objects_of objects) look_up.start_count (length objects) look_up.openings.items [] 0 0 er ed (objects_same grown objects lists) (es ∙ count) eo refl in
    let said = subst (λ (r : Result (List (List Pair)) OpenRefusal). IsRefusedBy r refusal refusal.cause) same h in
    let bound = refused_bind (pairs_from rule dir (objects_of objects) (length objects) [] 0) (λ pairs. Ok (record { objects = objects; pairs = pairs; openings = []; start_count = length objects; starts = 0 ∷ [] })) refusal refusal.cause said in
    subst (λ (r : Result (List Loaded) OpenRefusal). IsRefusedBy {T = State} (after_start rule dir r) refusal refusal.cause) (sym wanted) bound

-- a call: what is known of it once its library is loaded
pub record Call (fetch : Fetch) (name : List ℕ) (mode : Mode) (old grown : RosterValue) (look_up : LookUp) (starts : List ℕ) (n : ℕ) (state : State) (objects : List Loaded) : Type 0 where
  pub stand : StandsFor (session_with old look_up starts) state
  pub wanted : with_named fetch old.dir state.objects name ≡ Ok objects
  pub holds : Holds n old grown objects
  pub count : n ≡ length old.objects
  pub roster : IsRoster old
  pub grown_roster : IsRoster grown
  pub closed : IsClosed grown
  pub dir : grown.dir ≡ old.dir

pub lists_of : (r : RosterValue) (look_up : LookUp) (starts : List ℕ) (state : State) → StandsFor (session_with r look_up starts) state → Lists r state.objects
lists_of r look_up starts state h = record { records_are = h.objects_are; names_are = h.names_are; bases_are = h.bases_are }

opening_same : (grown : RosterValue) (objects : List Loaded) (name : List ℕ) (mode : Mode) → IsRoster grown → IsClosed grown → Lists grown objects → opening_in grown name mode ≡ opening_of objects name mode
opening_same grown objects name mode h closed lists =
    let made : List ℕ → Opening = λ tree. record { mode = mode; tree = tree } in
    ap (λ (deps : List (List ℕ)). made (tree_of deps (unwrap_or (answerer_in grown name) 0))) (deps-same grown objects h closed lists)
    ∙ ap (λ (o : Option ℕ). made (tree_of (dependencies objects) (unwrap_or o 0))) (answerer-same grown objects lists name)

call_pairs : (fetch : Fetch) (name : List ℕ) (mode : Mode) (old grown : RosterValue) (look_up : LookUp) (starts : List ℕ) (n : ℕ) (state : State) (objects : List Loaded)
    → Call fetch name mode old grown look_up starts n state objects
    → pairs_from look_up.rule grown.dir (objects_in grown) look_up.start_count (look_up.openings.items ++ opening_in grown name mode ∷ []) n
    ≡ pairs_from look_up.rule old.dir (objects_of objects) state.start_count (state.openings ++ opening_of objects name mode ∷ []) (length state.objects)
call_pairs fetch name mode old grown look_up starts n state objects c =
    let before = object-count old state.objects (lists_of old look_up starts state c.stand) in
    pairs_same look_up.rule look_up.rule grown.dir old.dir (objects_in grown) (objects_of objects) look_up.start_count state.start_count
    (look_up.openings.items ++ opening_in grown name mode ∷ []) (state.openings ++ opening_of objects name mode ∷ []) n (length state.objects)
    refl c.dir (objects_same grown objects c.holds.lists) c.stand.start_count_is
    (ap (λ (os : List Opening). os ++ opening_in grown name mode ∷ []) c.stand.openings_are ∙ ap (λ (o : Opening). state.openings ++ o ∷ []) (opening_same grown objects name mode c.grown_roster c.closed c.holds.lists))
    (c.count ∙ before)

-- the state after a call, once the objects are known
abbrev after : Rule → List ℕ → List ℕ → Mode → State → Result (List Loaded) OpenRefusal → Result State OpenRefusal
after rule dir name mode state found = found >>= λ objects.
    pairs_from rule dir (objects_of objects) state.start_count (state.openings ++ opening_of objects name mode ∷ []) (length state.objects) >>= λ pairs. Ok (record {
      objects = objects;
      pairs = state.pairs ++ pairs;
      openings = state.openings ++ opening_of objects name mode ∷ [];
      start_count = state.start_count;
      starts = state.starts ++ start_between (length state.objects) (length objects);
    })

pub call_unloaded : (fetch : Fetch) (dir name : List ℕ) (mode : Mode) (rule : Rule) (state : State) (refusal : OpenRefusal) → IsRefusedBy (with_named fetch dir state.objects name) refusal refusal.cause
    → IsRefusedBy (opened fetch dir rule state name mode) refusal refusal.cause
call_unloaded fetch dir name mode rule state refusal h =
    refused_bind (with_named fetch dir state.objects name) (λ objects. after rule dir name mode state (Ok objects)) refusal refusal.cause h

pub call_ok : (fetch : Fetch) (name : List ℕ) (mode : Mode) (old grown now : RosterValue) (look_up look_up' : LookUp) (starts starts' : List ℕ) (n : ℕ) (state : State) (objects : List Loaded)
    → Call fetch name mode old grown look_up starts n state objects
    → RelocatesFrom {T = Unit {0}} (pairs_from look_up.rule grown.dir (objects_in grown) look_up.start_count (look_up.openings.items ++ opening_in grown name mode ∷ []) n) n grown now (Ok tt) → StaysBelow n grown now
    → look_up'.openings.items ≡ look_up.openings.items ++ opening_in grown name mode ∷ [] → look_up'.start_count ≡ look_up.start_count → starts' ≡ starts ++ start_between n (length grown.objects)
    → Reaches (session_with now look_up' starts') (opened fetch old.dir look_up.rule state name mode)
call_ok fetch name mode old grown now look_up look_up' starts starts' n state objects c rel stays eo es est =
    let lists = lists_of old look_up starts state c.stand in
    let before = object-count old state.objects lists in
    let count = object-count grown objects c.holds.lists in
    let said = sym (call_pairs fetch name mode old grown look_up starts n state objects c) ∙ rel.1 in
    let openings = state.openings ++ opening_of objects name mode ∷ [] in
    let starts'' = state.starts ++ start_between (length state.objects) (length objects) in
    let next : State = record { objects = objects; pairs = state.pairs ++ rel.0; openings = openings; start_count = state.start_count; starts = starts'' } in
    let is : opened fetch old.dir look_up.rule state name mode ≡ Ok next =
    ap (after look_up.rule old.dir name mode state) c.wanted
    ∙ ap (λ (r : Result (List (List Pair)) OpenRefusal). r >>= λ pairs. Ok (record { objects = objects; pairs = state.pairs ++ pairs; openings = openings; start_count = state.start_count; starts = starts'' })) said in
    let begins : take (length state.objects) objects ≡ state.objects = with_named-Begins fetch old.dir state.objects name (is_some (answerer state.objects name)) objects c.wanted in
    let here : n ≡ length state.objects = c.count ∙ before in
    let front : take n objects ≡ state.objects = ap (λ (k : ℕ). take k objects) here ∙ begins in
    let long = pairs-count (pairs_for look_up.rule old.dir (objects_of objects) state.start_count openings) (length state.objects) (length (map records_of objects)) rel.0 said in
    let more : length rel.0 ≡ length objects - n = omega (arith, long, length-map objects records_of, here) in
    let fits : n ≤ length objects = omega (arith, ap length front, length-take n objects, here) in
    let olds : length old.memories ≡ n = omega (arith, memory_count old c.roster, c.count) in
    let stand : old.memories ≡ map memory_of (zip (take n objects) state.pairs) = c.stand.memories_are ∙ ap (λ (os : List Loaded). map memory_of (zip os state.pairs)) (sym front) in
    let some : length state.pairs ≡ n = c.stand.pair_count ∙ sym here in
    let eo' = eo ∙ (ap (λ (os : List Opening). os ++ opening_in grown name mode ∷ []) c.stand.openings_are ∙ ap (λ (o : Opening). state.openings ++ o ∷ []) (opening_same grown objects name mode c.grown_roster c.closed c.holds.lists)) in
    let est' = est ∙ (ap (λ (ss : List ℕ). ss ++ start_between n (length grown.objects)) c.stand.starts_are
    ∙ (ap (λ (k : ℕ). state.starts ++ start_between k (length grown.objects)) here ∙ ap (λ (k : ℕ). state.starts ++ start_between (length state.objects) k) count)) in
    (next, is, stands now grown look_up' starts' objects state.pairs rel.0 openings state.start_count starts'' n old.memories c.grown_roster c.closed c.holds.lists stays.rest fits some olds more stand c.holds.memories_are rel.2 eo' (es ∙ c.stand.start_count_is) est')

pub call_err : (fetch : Fetch) (name : List ℕ) (mode : Mode) (old grown : RosterValue) (look_up : LookUp) (starts : List ℕ) (n : ℕ) (state : State) (objects : List Loaded) (refusal : OpenRefusal)
    → Call fetch name mode old grown look_up starts n state objects
    → IsRefusedBy (pairs_from look_up.rule grown.dir (objects_in grown) look_up.start_count (look_up.openings.items ++ opening_in grown name mode ∷ []) n) refusal refusal.cause
    → IsRefusedBy (opened fetch old.dir look_up.rule state name mode) refusal refusal.cause
call_err fetch name mode old grown look_up starts n state objects refusal c h =
    let openings = state.openings ++ opening_of objects name mode ∷ [] in
    let said = subst (λ (r : Result (List (List Pair)) OpenRefusal). IsRefusedBy r refusal refusal.cause) (call_pairs fetch name mode old grown look_up starts n state objects c) h in
    let bound = refused_bind (pairs_from look_up.rule old.dir (objects_of objects) state.start_count openings (length state.objects))
    (λ pairs. Ok (record { objects = objects; pairs = state.pairs ++ pairs; openings = openings; start_count = state.start_count; starts = state.starts ++ start_between (length state.objects) (length objects) })) refusal refusal.cause said in
    subst (λ (r : Result (List Loaded) OpenRefusal). IsRefusedBy {T = State} (after look_up.rule old.dir name mode state r) refusal refusal.cause) (sym c.wanted) bound

-- where an object answers, nothing is loaded
found_named : (fetch : Fetch) (dir : List ℕ) (objects : List Loaded) (name : List ℕ) (o : Option ℕ) (i : ℕ) → o ≡ Some i → (if is_some o then Ok objects else with_needed fetch dir objects name) ≡ Ok objects
found_named fetch dir objects name o i e = rw e refl

pub loads_found : (fetch : Fetch) (r : RosterValue) (name : List ℕ) (i : ℕ) (objects : List Loaded) → Lists r objects → answerer_in r name ≡ Some i
    → Loads {T = Unit {0}} (with_named fetch r.dir objects name) r r (Ok tt)
loads_found fetch r name i objects lists e =
    let some : answerer objects name ≡ Some i = sym (answerer-same r objects lists name) ∙ e in
    let count = object-count r objects lists in
    let empty : drop (length r.objects) objects ≡ [] = drop_all (length r.objects) objects (let le : length objects ≤ length r.objects = omega (arith, count) in le) in (
      objects,
      found_named fetch r.dir objects name (answerer objects name) i some,
      record { lists = lists; memories_are = sym (append-nil r.memories) ∙ ap (λ (os : List Loaded). r.memories ++ map placed_memory os) (sym empty) },
    )

missing_named : (fetch : Fetch) (dir : List ℕ) (objects : List Loaded) (name : List ℕ) (o : Option ℕ) → o ≡ None → with_needed fetch dir objects name ≡ (if is_some o then Ok objects else with_needed fetch dir objects name)
missing_named fetch dir objects name o e = rw e refl

pub loads_missing : (fetch : Fetch) (r new : RosterValue) (name : List ℕ) (objects : List Loaded) (result : Result (Unit {0}) OpenRefusal) → Lists r objects → answerer_in r name ≡ None
    → Loads (with_needed fetch r.dir objects name) r new result → Loads (with_named fetch r.dir objects name) r new result
loads_missing fetch r new name objects result lists e h =
    let none : answerer objects name ≡ None = sym (answerer-same r objects lists name) ∙ e in
    subst (λ (wanted : Result (List Loaded) OpenRefusal). Loads wanted r new result) (missing_named fetch r.dir objects name (answerer objects name) none) h

pub none-untagged : (r : RosterValue) → IsRoster r → All (λ m. m.words ≡ []) (drop (length r.objects) r.memories)
none-untagged r h =
    let le : length r.memories ≤ length r.objects = omega (arith, memory_count r h) in
    rw (drop_all (length r.objects) r.memories le) (All-nil (λ (m : TaggedMemory). m.words ≡ []))
