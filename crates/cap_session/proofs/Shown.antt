-- The memory of each object of a state shows what its relocations mean.
use Rattle.std.proofs.Common.{◌≡◌, ℕ, ◌+◌, ◌<◌, ◌≤◌, List, [], ◌∷◌, ◌++◌, length, get_or, map, drop, refl, ap, sym, ◌∙◌, subst, arith}
use Rattle.std.specs.Prelude.{All, Ok, is_some, slice_index}
use Rattle.std.proofs.lemmas.List.{get_or-map, get_or_append_left, length-append, take-append-drop}
use Rattle.std.proofs.lemmas.List.Elements.{All-nil}
use Rattle.cap_own.specs.Cap.{Mapping}
use Rattle.cap_mem.specs.Tagged.{TaggedMemory, is_tagged}
use Rattle.cap_scope.specs.declared.choice.Rule.{Rule}
use Rattle.cap_reloc.specs.Shown.{ShowsMeant, StoredIsMeant}
use Rattle.cap_reloc.specs.Wanted.{Setting, Pair}
use Rattle.cap_session.specs.Binding.{objects_of, setting_of}
use Rattle.cap_session.specs.Bound.{IsBoundAt, IsRound, of_call, of_start}
use Rattle.cap_session.specs.Calls.{Call, mode_of}
use Rattle.cap_session.specs.Exact.{GivesRead, IsCallOf, IsReached}
use Rattle.cap_session.specs.Loading.{Fetch, Loaded, answerer, with_named}
use Rattle.cap_session.specs.Roster.{placed_memory}
use Rattle.cap_session.specs.Scope.{Opening}
use Rattle.cap_session.specs.State.{State, memory_of, opening_of}
use Rattle.cap_session.proofs.Begins.{with_named-Begins}
use Rattle.cap_session.proofs.HeldObjects.{placed-unrelocated, roots-low, sound-at}
use Rattle.cap_session.proofs.Placed.{IsRelocated, PairLaws, is-placed, roots_from}
use Rattle.cap_session.proofs.Reached.{AreRelocated, call-relocated, calls-reached, relocated-at, some-of, start-reached}
use Rattle.cap_session.proofs.ReadObjects.{named-loads, needed-loads, none-loaded}

-- the state in which a call is made was reached
called-reached : (laws : PairLaws) (fetch : Fetch) (dir main : List ℕ) (rule : Rule) (calls : List Call) (state : State) (call : Call) → GivesRead fetch → IsCallOf fetch dir main rule calls state call → IsReached state
called-reached laws fetch dir main rule calls state call given h =
    subst IsReached (sym h.state_is) (calls-reached laws fetch dir rule h.first h.before given (start-reached laws fetch dir main rule h.first given h.begun))

-- so each object of a start or a call was relocated among loaded ones
round-relocated : (laws : PairLaws) (fetch : Fetch) (dir main : List ℕ) (rule : Rule) (calls : List Call) (before : ℕ) (objects : List Loaded) (start_count : ℕ) (openings : List Opening) → GivesRead fetch
    → IsRound fetch dir main rule calls before objects start_count openings → AreRelocated objects start_count openings
round-relocated laws fetch dir main rule calls before objects start_count openings given (of_start loaded first count none) =
    let are = needed-loads fetch dir [] main objects given none-loaded loaded in
    record {
      loaded = are.loaded;
      start_few = omega (arith, count);
      trees = subst (λ (os : List Opening). All (λ (o : Opening). All (λ j. j < length objects) o.tree) os) (sym none) (All-nil (λ (o : Opening). All (λ j. j < length objects) o.tree));
    }
round-relocated laws fetch dir main rule calls before objects start_count openings given (of_call state call made_by loaded first count opened) =
    let reached = called-reached laws fetch dir main rule calls state call given made_by in
    let found = is_some (answerer state.objects call.name) in
    let are = named-loads fetch dir state.objects call.name found objects given (some-of state reached) loaded in
    let more : List Loaded = drop (length state.objects) objects in
    let front = with_named-Begins fetch dir state.objects call.name found objects loaded in
    let is : objects ≡ state.objects ++ more = sym (take-append-drop (length state.objects) objects) ∙ ap (λ (xs : List Loaded). xs ++ more) front in
    let rel = call-relocated objects more state call.name (mode_of call.form) reached are is in
    subst (λ (n : ℕ). AreRelocated objects n openings) (sym count)
    (subst (λ (os : List Opening). AreRelocated objects state.start_count os) (sym opened) rel)

pub run-shown : (laws : PairLaws) → StoredIsMeant → (fetch : Fetch) (dir main : List ℕ) (rule : Rule) (calls : List Call) (state : State) (i : ℕ) (d : Loaded) → GivesRead fetch → (h : IsBoundAt fetch dir main rule calls state i)
    → ShowsMeant (setting_of rule (objects_of h.objects) h.start_count h.openings i) (placed_memory (get_or state.objects i d)).bytes (memory_of (get_or state.objects i d, get_or state.pairs i [])).bytes
    (λ at. is_tagged (memory_of (get_or state.objects i d, get_or state.pairs i [])) ((get_or state.objects i d).base + at))
run-shown laws meant fetch dir main rule calls state i d given h =
    let objects : List Loaded = h.objects in
    let roots : List Mapping = roots_from 0 objects in
    let setting : Setting = setting_of rule (objects_of objects) h.start_count h.openings i in
    let o : Loaded = get_or objects i d in
    let pairs : List Pair = get_or state.pairs i [] in
    let rel = relocated-at objects h.start_count h.openings i (round-relocated laws fetch dir main rule calls h.before objects h.start_count h.openings given h.round) h.to in
    let placed = is-placed rule objects h.start_count h.openings i rel in
    let shown = meant roots setting pairs (placed_memory o) (roots-low 0 0x40000000 objects rel.loaded.behind) placed (sound-at 0x40000000 objects i d rel.loaded.behind rel.loaded.read h.to) (placed-unrelocated objects i d h.to) h.wanted in
    let base : slice_index (map (λ (o : Loaded). o.base) objects) i ≡ o.base = get_or-map (λ (o : Loaded). o.base) objects i d 0 h.to in
    let same : o ≡ get_or state.objects i d = sym (ap (λ (os : List Loaded). get_or os i d) h.begins ∙ get_or_append_left objects h.later d i h.to) in
    subst (λ (x : Loaded). ShowsMeant setting (placed_memory x).bytes (memory_of (x, pairs)).bytes (λ at. is_tagged (memory_of (x, pairs)) (x.base + at))) same
    (subst (λ (n : ℕ). ShowsMeant setting (placed_memory o).bytes (memory_of (o, pairs)).bytes (λ at. is_tagged (memory_of (o, pairs)) (n + at))) base shown)
