-- What an image needs holds of the states that a start and calls lead to.
use Rattle.std.proofs.Common.{◌≡◌, ℕ, suc, zero, ◌+◌, ◌<◌, ◌≤◌, Bool, List, [], ◌∷◌, ◌++◌, length, get_or, map, drop, refl, ap, sym, ◌∙◌, subst, arith}
use Rattle.std.specs.Prelude.{All, Result, Ok, Err, is_some, zip}
use Rattle.std.specs.List.{AllZip}
use Rattle.std.specs.Result.{result_unwrap_or}
use Rattle.std.proofs.lemmas.List.{length-map, take-append-drop}
use Rattle.std.proofs.lemmas.List.Elements.{All-cons, All-head, All-nil, All-tail}
use Rattle.std.proofs.lemmas.Slice.Zip.{AllZip-long}
use Rattle.cap_base.specs.Steps.{◌>>=◌}
use Rattle.cap_elf.specs.declared.records.Symbol.{Symbol}
use Rattle.cap_elf.specs.IsRead.{IsRead, IsShort}
use Rattle.cap_mem.specs.IsMemory.{IsMemory}
use Rattle.cap_mem.specs.Tagged.{TaggedMemory, TaggedWord}
use Rattle.cap_scope.specs.declared.choice.Rule.{Rule}
use Rattle.cap_scope.specs.Candidates.{defined_name, hash_table}
use Rattle.cap_scope.specs.Chosen.{object_at}
use Rattle.cap_reloc.specs.Stored.{overlaid}
use Rattle.cap_reloc.specs.Wanted.{Pair}
use Rattle.cap_session.specs.declared.refusal.Mode.{Mode}
use Rattle.cap_session.specs.declared.refusal.OpenRefusal.{OpenRefusal}
use Rattle.cap_session.specs.Binding.{objects_of, pairs_from}
use Rattle.cap_session.specs.Calls.{Call, after_call, after_calls, ending_of, mode_of, outcome_from, refused_calls}
use Rattle.cap_session.specs.Entering.{start_between}
use Rattle.cap_session.specs.Exact.{GivesRead, IsReached}
use Rattle.cap_session.specs.Held.{IsHeldState, IsMappedAt, state_symbols}
use Rattle.cap_session.specs.Loading.{Fetch, Loaded, answerer, records_of, with_named, with_needed}
use Rattle.cap_session.specs.Mappings.{IsName}
use Rattle.cap_session.specs.Roster.{placed_memory}
use Rattle.cap_session.specs.Scope.{Opening}
use Rattle.cap_session.specs.Session.{HasOwners}
use Rattle.cap_session.specs.State.{State, memory_of, opened, opening_of, started}
use Rattle.cap_session.proofs.Begins.{bind_ok, ok_same, with_named-Begins}
use Rattle.cap_session.proofs.Gathered.{zip-both}
use Rattle.cap_session.proofs.HeldNames.{AreNamed, needed-are-named, opened-are-named}
use Rattle.cap_session.proofs.HeldObjects.{AreHeld, HeldLaws, held-pairs, held-stays, placed-long}
use Rattle.cap_session.proofs.Reached.{call-reached, call-relocated, some-of, start-reached, unless-ended}
use Rattle.cap_session.proofs.ReadObjects.{named-loads, needed-loads, none-loaded}

abbrev NamesOf : Loaded → List (List ℕ × Bool)
NamesOf o = (hash_table (records_of o)).names

short-names : (symbols : List Symbol) (names : List (List ℕ)) → All IsShort names → All (λ (n : List ℕ × Bool). IsShort n.0) (map defined_name (zip symbols names))
short-names [] names h = All-nil (λ (n : List ℕ × Bool). IsShort n.0)
short-names (s ∷ symbols) [] h = All-nil (λ (n : List ℕ × Bool). IsShort n.0)
short-names (s ∷ symbols) (n ∷ names) h =
    All-cons (λ (m : List ℕ × Bool). IsShort m.0) (defined_name (s, n)) (map defined_name (zip symbols names)) (All-head IsShort n names h) (short-names symbols names (All-tail IsShort n names h))

all-short : (objects : List Loaded) → All IsRead (map records_of objects) → All (λ (of : List (List ℕ × Bool)). All (λ n. IsShort n.0) of) (map NamesOf objects)
all-short [] h = All-nil (λ (of : List (List ℕ × Bool)). All (λ n. IsShort n.0) of)
all-short (o ∷ objects) h =
    let read : IsRead (records_of o) = All-head IsRead (records_of o) (map records_of objects) h in
    All-cons (λ (of : List (List ℕ × Bool)). All (λ n. IsShort n.0) of) (NamesOf o) (map NamesOf objects) (short-names (records_of o).symbols (records_of o).names read.names_are)
    (all-short objects (All-tail IsRead (records_of o) (map records_of objects) h))

names-count : (symbols : List Symbol) (names : List (List ℕ)) → length names ≡ length symbols → length (map defined_name (zip symbols names)) ≡ length symbols
names-count [] names e = refl
names-count (s ∷ symbols) [] e = absurd (omega (arith, e))
names-count (s ∷ symbols) (n ∷ names) e = ap suc (names-count symbols names (omega (arith, e)))

count-at : (objects : List Loaded) (i : ℕ) → All IsRead (map records_of objects) → i < length objects → length (get_or (map NamesOf objects) i []) ≡ length (object_at (map records_of objects) i).symbols
count-at [] i h lt = absurd (omega (arith, lt))
count-at (o ∷ objects) zero h lt =
    let read : IsRead (records_of o) = All-head IsRead (records_of o) (map records_of objects) h in
    names-count (records_of o).symbols (records_of o).names read.name_count
count-at (o ∷ objects) (suc i) h lt = count-at objects i (All-tail IsRead (records_of o) (map records_of objects) h) (omega (arith, lt))

overlaid-long : (pairs : List Pair) (at : ℕ) (bytes : List ℕ) → length (overlaid pairs at bytes) ≡ length bytes
overlaid-long pairs at [] = refl
overlaid-long pairs at (byte ∷ bytes) = ap suc (overlaid-long pairs (at + 1) bytes)

are-mapped : (objects : List Loaded) (pairs : List (List Pair)) → length pairs ≡ length objects → AllZip IsMappedAt objects (map memory_of (zip objects pairs))
are-mapped [] pairs e = tt
are-mapped (o ∷ objects) [] e = absurd (omega (arith, e))
are-mapped (o ∷ objects) (p ∷ pairs) e = ((refl, overlaid-long p o.base (placed_memory o).bytes ∙ placed-long o), are-mapped objects pairs (omega (arith, e)))

zipped : (P : TaggedMemory → Type 0) (R : Loaded → List Pair → Type 0) (objects : List Loaded) (pairs : List (List Pair)) → ((o : Loaded) (ps : List Pair) → R o ps → P (memory_of (o, ps)))
    → AllZip R objects pairs → All P (map memory_of (zip objects pairs))
zipped P R [] pairs f h = All-nil P
zipped P R (o ∷ objects) [] f h = absurd h
zipped P R (o ∷ objects) (p ∷ pairs) f h = All-cons P (memory_of (o, p)) (map memory_of (zip objects pairs)) (f o p h.0) (zipped P R objects pairs f h.1)

has-owners : (laws : HeldLaws) (objects : List Loaded) (o : Loaded) (ps : List Pair) → All IsRead (map records_of objects) → AreHeld objects o ps → HasOwners (map NamesOf objects) (memory_of (o, ps))
has-owners laws objects o ps read h =
    let symbols : List (List (List ℕ × Bool)) = map NamesOf objects in
    let words : List TaggedWord = (memory_of (o, ps)).words in
    let records = length-map objects records_of in
    let lists = length-map objects NamesOf in
    let said = laws.noted (map records_of objects) ps (placed_memory o) h.noted in
    record {
      owners = λ k d lt. (let low = (said k d lt).object in omega (arith, low, records, lists));
      notes = λ k d lt.
          let w : TaggedWord = get_or words k d in
          let low = (said k d lt).object in
          let same = count-at objects w.cap.owner read (omega (arith, low, records)) in
          subst (λ (n : ℕ). w.note < n) (sym same) (said k d lt).symbol;
    }

-- what is kept from state to state
record IsKept (state : State) : Type 0 where
  pub reached : IsReached state
  pub named : AreNamed state.objects
  pub held : AllZip (AreHeld state.objects) state.objects state.pairs

kept-held : (laws : HeldLaws) (state : State) → IsKept state → IsHeldState state
kept-held laws state h =
    let count : length state.pairs ≡ length state.objects = AllZip-long (AreHeld state.objects) state.objects state.pairs h.held in
    record {
      names = h.named;
      symbol_names = all-short state.objects h.reached.read;
      pair_count = count;
      owners = zipped (HasOwners (state_symbols state)) (AreHeld state.objects) state.objects state.pairs (λ o ps one. has-owners laws state.objects o ps h.reached.read one) h.held;
      sound = zipped IsMemory (AreHeld state.objects) state.objects state.pairs (λ o ps one. one.sound) h.held;
      mapped = are-mapped state.objects state.pairs count;
    }

start-kept : (laws : HeldLaws) (fetch : Fetch) (dir main : List ℕ) (rule : Rule) (state : State) → GivesRead fetch → IsName main → started fetch dir main rule ≡ Ok state → IsKept state
start-kept laws fetch dir main rule state given is-name e =
    let made : List Loaded → List (List Pair) → State = λ objects pairs. record { objects = objects; pairs = pairs; openings = []; start_count = length objects; starts = 0 ∷ [] } in
    let loaded = bind_ok (with_needed fetch dir [] main) (λ objects. pairs_from rule dir (objects_of objects) (length objects) [] 0 >>= λ pairs. Ok (made objects pairs)) state e in
    let objects : List Loaded = loaded.0 in
    let bound = bind_ok (pairs_from rule dir (objects_of objects) (length objects) [] 0) (λ pairs. Ok (made objects pairs)) state loaded.2 in
    let are = needed-loads fetch dir [] main objects given none-loaded loaded.1 in
    let low : length objects ≤ length objects = omega arith in
    let none : All (λ (o : Opening). All (λ j. j < length objects) o.tree) [] = All-nil (λ (o : Opening). All (λ j. j < length objects) o.tree) in
    let same = ok_same (made objects bound.0) state bound.2 in
    record {
      reached = start-reached laws.pairs fetch dir main rule state given e;
      named = subst (λ (s : State). AreNamed s.objects) same (needed-are-named fetch dir [] main objects given none-loaded (All-nil (λ (o : Loaded). IsName o.name)) is-name loaded.1);
      held = subst (λ (s : State). AllZip (AreHeld s.objects) s.objects s.pairs) same (held-pairs laws rule dir objects [] objects (length objects) [] bound.0 refl (record { loaded = are.loaded; start_few = low; trees = none }) bound.1);
    }

call-kept : (laws : HeldLaws) (fetch : Fetch) (dir : List ℕ) (rule : Rule) (state : State) (name : List ℕ) (mode : Mode) (next : State) → GivesRead fetch → IsName name → IsKept state → opened fetch dir rule state name mode ≡ Ok next → IsKept next
call-kept laws fetch dir rule state name mode next given is-name h e =
    let made : List Loaded → List (List Pair) → State = λ objects pairs. record { objects = objects; pairs = state.pairs ++ pairs; openings = state.openings ++ opening_of objects name mode ∷ []; start_count = state.start_count; starts = state.starts ++ start_between (length state.objects) (length objects) } in
    let loaded = bind_ok (with_named fetch dir state.objects name) (λ objects. pairs_from rule dir (objects_of objects) state.start_count (state.openings ++ opening_of objects name mode ∷ []) (length state.objects) >>= λ pairs. Ok (made objects pairs)) next e in
    let objects : List Loaded = loaded.0 in
    let openings : List Opening = state.openings ++ opening_of objects name mode ∷ [] in
    let bound = bind_ok (pairs_from rule dir (objects_of objects) state.start_count openings (length state.objects)) (λ pairs. Ok (made objects pairs)) next loaded.2 in
    let found : Bool = is_some (answerer state.objects name) in
    let before = some-of state h.reached in
    let are = named-loads fetch dir state.objects name found objects given before loaded.1 in
    let more : List Loaded = drop (length state.objects) objects in
    let front = with_named-Begins fetch dir state.objects name found objects loaded.1 in
    let is : objects ≡ state.objects ++ more = sym (take-append-drop (length state.objects) objects) ∙ ap (λ (xs : List Loaded). xs ++ more) front in
    let rel = call-relocated objects more state name mode h.reached are is in
    let new = held-pairs laws rule dir objects state.objects more state.start_count openings bound.0 is rel bound.1 in
    let old : AllZip (AreHeld objects) state.objects state.pairs =
    subst (λ (xs : List Loaded). AllZip (AreHeld xs) state.objects state.pairs) (sym is) (held-stays state.objects more state.objects state.pairs h.held) in
    let both : AllZip (AreHeld objects) objects (state.pairs ++ bound.0) =
    subst (λ (xs : List Loaded). AllZip (AreHeld objects) xs (state.pairs ++ bound.0)) (sym is) (zip-both (AreHeld objects) state.objects more state.pairs bound.0 old new) in
    let same = ok_same (made objects bound.0) next bound.2 in
    record {
      reached = call-reached laws.pairs fetch dir rule state name mode next given h.reached e;
      named = subst (λ (s : State). AreNamed s.objects) same (opened-are-named fetch dir state.objects name found objects given before.loaded h.named is-name loaded.1);
      held = subst (λ (s : State). AllZip (AreHeld s.objects) s.objects s.pairs) same both;
    }

-- ---- runs
one-kept : (laws : HeldLaws) (fetch : Fetch) (dir : List ℕ) (rule : Rule) (state : State) (call : Call) → GivesRead fetch → IsName call.name → IsKept state → IsKept (after_call fetch dir rule state call)
one-kept laws fetch dir rule state call given is-name h = go (opened fetch dir rule state call.name (mode_of call.form)) refl
  where
    go : (r : Result State OpenRefusal) → opened fetch dir rule state call.name (mode_of call.form) ≡ r → IsKept (result_unwrap_or r state)
    go (Ok next) e = call-kept laws fetch dir rule state call.name (mode_of call.form) next given is-name h e
    go (Err refusal) e = h

abbrev HasName : Call → Type 0
HasName call = IsName call.name

calls-kept : (laws : HeldLaws) (fetch : Fetch) (dir : List ℕ) (rule : Rule) (state : State) (calls : List Call) → GivesRead fetch → All HasName calls → IsKept state → IsKept (after_calls fetch dir rule state calls)
calls-kept laws fetch dir rule state [] given names h = h
calls-kept laws fetch dir rule state (call ∷ calls) given names h =
    calls-kept laws fetch dir rule (after_call fetch dir rule state call) calls given (All-tail HasName call calls names) (one-kept laws fetch dir rule state call given (All-head HasName call calls names) h)

pub run-held : (laws : HeldLaws) (fetch : Fetch) (dir main : List ℕ) (rule : Rule) (calls : List Call) (state : State) → GivesRead fetch → IsName main → All (λ call. IsName call.name) calls
    → (outcome_from fetch dir rule calls (started fetch dir main rule)).«end» ≡ Ok state → IsHeldState state
run-held laws fetch dir main rule calls state given is-name names e = go (started fetch dir main rule) refl e
  where
    go : (r : Result State OpenRefusal) → started fetch dir main rule ≡ r → (outcome_from fetch dir rule calls r).«end» ≡ Ok state → IsHeldState state
    go (Err refusal) is e = absurd cc
    go (Ok first) is e =
        kept-held laws state
        (subst IsKept (unless-ended (ending_of (refused_calls fetch dir rule first calls)) (after_calls fetch dir rule first calls) state e)
        (calls-kept laws fetch dir rule first calls given names (start-kept laws fetch dir main rule first given is-name is)))
