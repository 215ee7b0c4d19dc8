-- What holds of the states that a start and calls lead to.
use Rattle.std.proofs.Common.{◌≡◌, ℕ, ◌+◌, ◌-◌, ◌<◌, ◌≤◌, List, [], ◌∷◌, ◌++◌, length, get_or, map, drop, refl, ap, sym, ◌∙◌, subst, arith}
use Rattle.std.specs.Prelude.{All, Option, Some, None, Result, Ok, Err, is_some, filter_map, unwrap_or}
use Rattle.std.specs.List.{AllZip, cons_option, range_with_len}
use Rattle.std.specs.Result.{result_unwrap_or}
use Rattle.std.proofs.lemmas.List.{get_or-append-add, length-append, length-map, take-append-drop}
use Rattle.std.proofs.lemmas.List.Elements.{All-append, All-cons, All-nil, All-push, All-weaker}
use Rattle.std.proofs.lemmas.List.FromFn.{length-enumerate_from}
use Rattle.cap_base.specs.Steps.{◌>>=◌, gather}
use Rattle.cap_scope.specs.declared.choice.Rule.{Rule}
use Rattle.cap_reloc.specs.Wanted.{Pair, wanted_pairs}
use Rattle.cap_session.specs.declared.refusal.Mode.{Mode}
use Rattle.cap_session.specs.declared.refusal.OpenRefusal.{OpenRefusal}
use Rattle.cap_session.specs.Binding.{objects_of, pairs_for, pairs_from, reloc_refusal, setting_of}
use Rattle.cap_session.specs.Calls.{Call, after_call, after_calls, ending_of, mode_of, outcome_from, refused_calls, state_unless}
use Rattle.cap_session.specs.Entering.{start_between}
use Rattle.cap_session.specs.Exact.{AreSlotsOf, GivesRead, IsBoundOf, IsReached}
use Rattle.cap_session.specs.Loading.{Fetch, Loaded, answerer, called, dependencies, is_answer, numbered, records_of, with_named, with_needed}
use Rattle.cap_session.specs.Scope.{Opening}
use Rattle.cap_session.specs.State.{State, opened, opening_of, started}
use Rattle.cap_session.proofs.Begins.{bind_ok, ok_same, with_named-Begins}
use Rattle.cap_session.proofs.Gathered.{as-ok, gathered, zip-both}
use Rattle.cap_session.proofs.Making.{trees-weaker}
use Rattle.cap_session.proofs.Placed.{IsRelocated, PairLaws, bound-stays, bounds-of, slots-of}
use Rattle.cap_session.proofs.ReadObjects.{AreLoaded, AreSomeLoaded, named-loads, needed-loads, none-loaded}
use Rattle.cap_session.proofs.Trees.{place-below, root-below, tree-below}

abbrev Below : ℕ → ℕ → Type 0
Below n i = i < n

one-below : (n : ℕ) (o : Option ℕ) (is : List ℕ) → ((i : ℕ) → o ≡ Some i → i < n) → All (Below n) is → All (Below n) (cons_option o is)
one-below n None is h rest = rest
one-below n (Some i) is h rest = All-cons (Below n) i is (h i refl) rest

names-below : (n : ℕ) (f : List ℕ → Option ℕ) → ((name : List ℕ) (i : ℕ) → f name ≡ Some i → i < n) → (names : List (List ℕ)) → All (Below n) (filter_map f names)
names-below n f h [] = All-nil (Below n)
names-below n f h (name ∷ names) = one-below n (f name) (filter_map f names) (h name) (names-below n f h names)

lists-below : (n : ℕ) (f : List ℕ → Option ℕ) → ((name : List ℕ) (i : ℕ) → f name ≡ Some i → i < n) → (objects : List Loaded) → All (λ of. All (Below n) of) (map (λ (o : Loaded). filter_map f (records_of o).needed) objects)
lists-below n f h [] = All-nil (λ of. All (Below n) of)
lists-below n f h (o ∷ objects) =
    All-cons (λ of. All (Below n) of) (filter_map f (records_of o).needed) (map (λ (o : Loaded). filter_map f (records_of o).needed) objects) (names-below n f h (records_of o).needed) (lists-below n f h objects)

answerer-among : (objects : List Loaded) (name : List ℕ) (i : ℕ) → answerer objects name ≡ Some i → i < length objects
answerer-among objects name i e =
    let lt = place-below (is_answer name) (numbered (map called objects)) i e in
    let count = length-enumerate_from 0 (map called objects) ∙ length-map objects called in
    omega (arith, lt, count)

-- the tree of an opening
pub opening-among : (objects : List Loaded) (name : List ℕ) (mode : Mode) → 0 < length objects → All (λ i. i < length objects) (opening_of objects name mode).tree
opening-among objects name mode some =
    tree-below (length objects) (dependencies objects) (unwrap_or (answerer objects name) 0) (lists-below (length objects) (answerer objects) (answerer-among objects) objects) (root-below (length objects) (answerer objects name) (answerer-among objects name) some)

-- how the objects behind the first ones are relocated
pub record AreRelocated (objects : List Loaded) (start_count : ℕ) (openings : List Opening) : Type 0 where
  pub loaded : AreLoaded objects
  pub start_few : start_count ≤ length objects
  pub trees : All (λ o. All (λ j. j < length objects) o.tree) openings

pub relocated-at : (objects : List Loaded) (start_count : ℕ) (openings : List Opening) (i : ℕ) → AreRelocated objects start_count openings → i < length objects → IsRelocated objects start_count openings i
relocated-at objects start_count openings i h lt = record { loaded = h.loaded; index = lt; start_few = h.start_few; trees = h.trees }

-- the pairs of an object behind the first ones
record AreGood (objects : List Loaded) (o : Loaded) (pairs : List Pair) : Type 0 where
  pub slots : AreSlotsOf o pairs
  pub bounds : All (λ (p : Pair). IsBoundOf objects p.content) pairs

good-pairs : (laws : PairLaws) (rule : Rule) (dir : List ℕ) (objects old more : List Loaded) (start_count : ℕ) (openings : List Opening) (pairs : List (List Pair)) → objects ≡ old ++ more → AreRelocated objects start_count openings
    → pairs_from rule dir (objects_of objects) start_count openings (length old) ≡ Ok pairs → AllZip (AreGood objects) more pairs
good-pairs laws rule dir objects old more start_count openings pairs is h e =
    let f = pairs_for rule dir (objects_of objects) start_count openings in
    let all = length-map objects records_of in
    let split = ap length is ∙ length-append old more in
    let count : length (map records_of objects) - length old ≡ length more = omega (arith, all, split) in
    gathered (AreGood objects) f (length old) more pairs (subst (λ (n : ℕ). gather f (range_with_len (length old) n) ≡ Ok pairs) count e) (λ k d ps lt of.
    let i : ℕ = length old + k in
    let one = relocated-at objects start_count openings i h (omega (arith, split, lt)) in
    let wanted : wanted_pairs (setting_of rule (objects_of objects) start_count openings i) ≡ Ok ps = as-ok (reloc_refusal dir (objects_of objects) i) (wanted_pairs (setting_of rule (objects_of objects) start_count openings i)) ps of in
    let at : get_or objects i d ≡ get_or more k d = ap (λ (os : List Loaded). get_or os i d) is ∙ get_or-append-add old more k d in
    record {
      slots = subst (λ (o : Loaded). AreSlotsOf o ps) at (slots-of laws rule objects start_count openings i d ps one wanted);
      bounds = bounds-of laws rule objects start_count openings i ps one wanted;
    })

good-slots : (objects xs : List Loaded) (pairs : List (List Pair)) → AllZip (AreGood objects) xs pairs → AllZip AreSlotsOf xs pairs
good-slots objects [] [] h = tt
good-slots objects [] (p ∷ pairs) h = absurd h
good-slots objects (x ∷ xs) [] h = absurd h
good-slots objects (x ∷ xs) (p ∷ pairs) h = (h.0.slots, good-slots objects xs pairs h.1)

abbrev AreBounds : List Loaded → List Pair → Type 0
AreBounds objects pairs = All (λ (p : Pair). IsBoundOf objects p.content) pairs

good-bounds : (objects xs : List Loaded) (pairs : List (List Pair)) → AllZip (AreGood objects) xs pairs → All (AreBounds objects) pairs
good-bounds objects [] [] h = All-nil (AreBounds objects)
good-bounds objects [] (p ∷ pairs) h = absurd h
good-bounds objects (x ∷ xs) [] h = absurd h
good-bounds objects (x ∷ xs) (p ∷ pairs) h = All-cons (AreBounds objects) p pairs h.0.bounds (good-bounds objects xs pairs h.1)

pub start-reached : (laws : PairLaws) (fetch : Fetch) (dir main : List ℕ) (rule : Rule) (state : State) → GivesRead fetch → started fetch dir main rule ≡ Ok state → IsReached state
start-reached laws fetch dir main rule state given e =
    let made : List Loaded → List (List Pair) → State = λ objects pairs. record { objects = objects; pairs = pairs; openings = []; start_count = length objects; starts = 0 ∷ [] } in
    let loaded = bind_ok (with_needed fetch dir [] main) (λ objects. pairs_from rule dir (objects_of objects) (length objects) [] 0 >>= λ pairs. Ok (made objects pairs)) state e in
    let objects : List Loaded = loaded.0 in
    let bound = bind_ok (pairs_from rule dir (objects_of objects) (length objects) [] 0) (λ pairs. Ok (made objects pairs)) state loaded.2 in
    let are = needed-loads fetch dir [] main objects given none-loaded loaded.1 in
    let low : length objects ≤ length objects = omega arith in
    let none : All (λ (o : Opening). All (λ j. j < length objects) o.tree) [] = All-nil (λ (o : Opening). All (λ j. j < length objects) o.tree) in
    let good = good-pairs laws rule dir objects [] objects (length objects) [] bound.0 refl (record { loaded = are.loaded; start_few = low; trees = none }) bound.1 in
    let reached : IsReached (made objects bound.0) = record {
      some = are.some;
      few = are.loaded.few;
      read = are.loaded.read;
      behind = are.loaded.behind;
      start_few = low;
      trees = none;
      slots = good-slots objects objects bound.0 good;
      bounds = good-bounds objects objects bound.0 good;
    } in
    subst IsReached (ok_same (made objects bound.0) state bound.2) reached

pub some-of : (state : State) → IsReached state → AreSomeLoaded state.objects
some-of state h = record { loaded = record { few = h.few; read = h.read; behind = h.behind }; some = h.some }

-- how the objects that a call loads are relocated
pub call-relocated : (objects more : List Loaded) (state : State) (name : List ℕ) (mode : Mode) → IsReached state → AreSomeLoaded objects → objects ≡ state.objects ++ more
    → AreRelocated objects state.start_count (state.openings ++ opening_of objects name mode ∷ [])
call-relocated objects more state name mode h are is =
    let split = ap length is ∙ length-append state.objects more in
    let few = h.start_few in
    let low : length state.objects ≤ length objects = omega (arith, split) in
    record {
      loaded = are.loaded;
      start_few = omega (arith, few, low);
      trees = All-push (λ (o : Opening). All (λ j. j < length objects) o.tree) state.openings (opening_of objects name mode) (trees-weaker (length state.objects) (length objects) low state.openings h.trees) (opening-among objects name mode are.some);
    }

pub call-reached : (laws : PairLaws) (fetch : Fetch) (dir : List ℕ) (rule : Rule) (state : State) (name : List ℕ) (mode : Mode) (next : State) → GivesRead fetch → IsReached state → opened fetch dir rule state name mode ≡ Ok next → IsReached next
call-reached laws fetch dir rule state name mode next given h e =
    let made : List Loaded → List (List Pair) → State = λ objects pairs. record { objects = objects; pairs = state.pairs ++ pairs; openings = state.openings ++ opening_of objects name mode ∷ []; start_count = state.start_count; starts = state.starts ++ start_between (length state.objects) (length objects) } in
    let loaded = bind_ok (with_named fetch dir state.objects name) (λ objects. pairs_from rule dir (objects_of objects) state.start_count (state.openings ++ opening_of objects name mode ∷ []) (length state.objects) >>= λ pairs. Ok (made objects pairs)) next e in
    let objects : List Loaded = loaded.0 in
    let openings : List Opening = state.openings ++ opening_of objects name mode ∷ [] in
    let bound = bind_ok (pairs_from rule dir (objects_of objects) state.start_count openings (length state.objects)) (λ pairs. Ok (made objects pairs)) next loaded.2 in
    let are = named-loads fetch dir state.objects name (is_some (answerer state.objects name)) objects given (some-of state h) loaded.1 in
    let more : List Loaded = drop (length state.objects) objects in
    let front = with_named-Begins fetch dir state.objects name (is_some (answerer state.objects name)) objects loaded.1 in
    let is : objects ≡ state.objects ++ more = sym (take-append-drop (length state.objects) objects) ∙ ap (λ (xs : List Loaded). xs ++ more) front in
    let rel = call-relocated objects more state name mode h are is in
    let good = good-pairs laws rule dir objects state.objects more state.start_count openings bound.0 is rel bound.1 in
    let old : All (AreBounds objects) state.pairs =
    All-weaker (AreBounds state.objects) (AreBounds objects) (λ ps below. λ k d lt. subst (λ (xs : List Loaded). IsBoundOf xs (get_or ps k d).content) (sym is) (bound-stays state.objects more (get_or ps k d).content (below k d lt))) state.pairs h.bounds in
    let reached : IsReached (made objects bound.0) = record {
      some = are.some;
      few = are.loaded.few;
      read = are.loaded.read;
      behind = are.loaded.behind;
      start_few = rel.start_few;
      trees = rel.trees;
      slots = subst (λ (xs : List Loaded). AllZip AreSlotsOf xs (state.pairs ++ bound.0)) (sym is) (zip-both AreSlotsOf state.objects more state.pairs bound.0 h.slots (good-slots objects more bound.0 good));
      bounds = All-append (AreBounds objects) state.pairs bound.0 old (good-bounds objects more bound.0 good);
    } in
    subst IsReached (ok_same (made objects bound.0) next bound.2) reached

-- ---- runs
pub one-call : (laws : PairLaws) (fetch : Fetch) (dir : List ℕ) (rule : Rule) (state : State) (call : Call) → GivesRead fetch → IsReached state → IsReached (after_call fetch dir rule state call)
one-call laws fetch dir rule state call given h = go (opened fetch dir rule state call.name (mode_of call.form)) refl
  where
    go : (r : Result State OpenRefusal) → opened fetch dir rule state call.name (mode_of call.form) ≡ r → IsReached (result_unwrap_or r state)
    go (Ok next) e = call-reached laws fetch dir rule state call.name (mode_of call.form) next given h e
    go (Err refusal) e = h

pub calls-reached : (laws : PairLaws) (fetch : Fetch) (dir : List ℕ) (rule : Rule) (state : State) (calls : List Call) → GivesRead fetch → IsReached state → IsReached (after_calls fetch dir rule state calls)
calls-reached laws fetch dir rule state [] given h = h
calls-reached laws fetch dir rule state (call ∷ calls) given h = calls-reached laws fetch dir rule (after_call fetch dir rule state call) calls given (one-call laws fetch dir rule state call given h)

pub unless-ended : (o : Option OpenRefusal) (s state : State) → state_unless o s ≡ Ok state → s ≡ state
unless-ended None s state e = ok_same s state e
unless-ended (Some refusal) s state e = absurd cc

pub run-reached : (laws : PairLaws) (fetch : Fetch) (dir main : List ℕ) (rule : Rule) (calls : List Call) (state : State) → GivesRead fetch → (outcome_from fetch dir rule calls (started fetch dir main rule)).«end» ≡ Ok state → IsReached state
run-reached laws fetch dir main rule calls state given e = go (started fetch dir main rule) refl e
  where
    go : (r : Result State OpenRefusal) → started fetch dir main rule ≡ r → (outcome_from fetch dir rule calls r).«end» ≡ Ok state → IsReached state
    go (Err refusal) is e = absurd cc
    go (Ok first) is e =
        subst IsReached (unless-ended (ending_of (refused_calls fetch dir rule first calls)) (after_calls fetch dir rule first calls) state e)
        (calls-reached laws fetch dir rule first calls given (start-reached laws fetch dir main rule first given is))
