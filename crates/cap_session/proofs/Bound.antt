-- How the slots of each object of a state were bound.
use Rattle.std.proofs.Common.{◌≡◌, ℕ, suc, zero, ◌+◌, ◌-◌, ◌<◌, ◌≤◌, ◌⊎◌, inl, inr, ⊎_elim, List, [], ◌∷◌, ◌++◌, length, get_or, map, drop, refl, ap, sym, ◌∙◌, subst, append_assoc, append-nil, arith}
use Rattle.std.specs.Prelude.{Result, Ok, Err, is_some, slice_index_or}
use Rattle.std.specs.List.{range_with_len}
use Rattle.std.specs.Result.{result_unwrap_or}
use Rattle.std.proofs.lemmas.List.{get_or-append-add, get_or_append_left, length-append, length-map, take-append-drop}
use Rattle.cap_base.specs.Steps.{◌>>=◌, gather}
use Rattle.cap_reloc.specs.Wanted.{Pair, wanted_pairs}
use Rattle.cap_scope.specs.declared.choice.Rule.{Rule}
use Rattle.cap_session.specs.declared.refusal.Mode.{Mode}
use Rattle.cap_session.specs.declared.refusal.OpenRefusal.{OpenRefusal}
use Rattle.cap_session.specs.Binding.{objects_of, pairs_for, pairs_from, reloc_refusal, setting_of}
use Rattle.cap_session.specs.Bound.{IsBoundAt, IsRound, of_call, of_start}
use Rattle.cap_session.specs.Calls.{Call, after_call, after_calls, ending_of, mode_of, outcome_from, refused_calls}
use Rattle.cap_session.specs.Entering.{start_between}
use Rattle.cap_session.specs.Exact.{IsCallOf}
use Rattle.cap_session.specs.Loading.{Fetch, Loaded, answerer, records_of, with_named, with_needed}
use Rattle.cap_session.specs.Scope.{Opening}
use Rattle.cap_session.specs.State.{State, opened, opening_of, started}
use Rattle.cap_session.proofs.Begins.{bind_ok, ok_same, with_named-Begins}
use Rattle.cap_session.proofs.Gathered.{as-ok}
use Rattle.cap_session.proofs.Reached.{unless-ended}
use Rattle.cap_session.proofs.Runs.{IsAt, begins-at, call-at, next-at}

-- what was gathered at a place
gathered-at : {Y : Type 0} (f : ℕ → Result Y OpenRefusal) (a n k : ℕ) (ys : List Y) (d : Y) → gather f (range_with_len a n) ≡ Ok ys → k < n → f (a + k) ≡ Ok (get_or ys k d)
gathered-at f a zero k ys d e lt = absurd (omega (arith, lt))
gathered-at {Y} f a (suc n) k ys d e lt =
    let first = bind_ok (f a) (λ y. gather f (range_with_len (a + 1) n) >>= λ zs. Ok (y ∷ zs)) ys e in
    let rest = bind_ok (gather f (range_with_len (a + 1) n)) (λ zs. Ok (first.0 ∷ zs)) ys first.2 in
    subst (λ (zs : List Y). f (a + k) ≡ Ok (get_or zs k d)) (ok_same (first.0 ∷ rest.0) ys rest.2) (at k first.0 rest.0 first.1 (λ j low. gathered-at f (a + 1) n j rest.0 d rest.1 low) lt)
  where
    at : (k : ℕ) (y : Y) (zs : List Y) → f a ≡ Ok y → ((j : ℕ) → j < n → f ((a + 1) + j) ≡ Ok (get_or zs j d)) → k < suc n → f (a + k) ≡ Ok (get_or (y ∷ zs) k d)
    at zero y zs one rest lt = let here : a ≡ a + 0 = omega arith in subst (λ (i : ℕ). f i ≡ Ok y) here one
    at (suc k) y zs one rest lt =
        let next : (a + 1) + k ≡ a + suc k = omega arith in
        subst (λ (i : ℕ). f i ≡ Ok (get_or zs k d)) next (rest k (omega (arith, lt)))

gathered-long : {Y : Type 0} (f : ℕ → Result Y OpenRefusal) (a n : ℕ) (ys : List Y) → gather f (range_with_len a n) ≡ Ok ys → length ys ≡ n
gathered-long f a zero ys e = sym (ap length (ok_same [] ys e))
gathered-long {Y} f a (suc n) ys e =
    let first = bind_ok (f a) (λ y. gather f (range_with_len (a + 1) n) >>= λ zs. Ok (y ∷ zs)) ys e in
    let rest = bind_ok (gather f (range_with_len (a + 1) n)) (λ zs. Ok (first.0 ∷ zs)) ys first.2 in
    let long = gathered-long f (a + 1) n rest.0 rest.1 in
    sym (ap length (ok_same (first.0 ∷ rest.0) ys rest.2)) ∙ ap suc long

-- the pairs of the objects from one on
record ArePairs (rule : Rule) (objects : List Loaded) (start_count : ℕ) (openings : List Opening) (from : ℕ) (pairs : List (List Pair)) : Type 0 where
  pub long : length pairs ≡ length objects - from
  pub wanted : (k : ℕ) → from + k < length objects → wanted_pairs (setting_of rule (objects_of objects) start_count openings (from + k)) ≡ Ok (get_or pairs k [])

are-pairs : (rule : Rule) (dir : List ℕ) (objects : List Loaded) (start_count : ℕ) (openings : List Opening) (from : ℕ) (pairs : List (List Pair)) → pairs_from rule dir (objects_of objects) start_count openings from ≡ Ok pairs
    → ArePairs rule objects start_count openings from pairs
are-pairs rule dir objects start_count openings from pairs e =
    let f = pairs_for rule dir (objects_of objects) start_count openings in
    let many = length-map objects records_of in
    let count : length (map records_of objects) - from ≡ length objects - from = omega (arith, many) in
    let all : gather f (range_with_len from (length objects - from)) ≡ Ok pairs = subst (λ (n : ℕ). gather f (range_with_len from n) ≡ Ok pairs) count e in
    record {
      long = gathered-long f from (length objects - from) pairs all;
      wanted = λ k lt.
          as-ok (reloc_refusal dir (objects_of objects) (from + k)) (wanted_pairs (setting_of rule (objects_of objects) start_count openings (from + k))) (get_or pairs k [])
          (gathered-at f from (length objects - from) k pairs [] all (omega (arith, lt)));
    }

-- ---- a state

-- each object of a state was bound, and has its pairs
record AreBound (fetch : Fetch) (dir main : List ℕ) (rule : Rule) (all : List Call) (state : State) : Type 0 where
  pub count : length state.pairs ≡ length state.objects
  pub bound : (i : ℕ) → i < length state.objects → IsBoundAt fetch dir main rule all state i

start-bound : (fetch : Fetch) (dir main : List ℕ) (rule : Rule) (all : List Call) (state : State) → started fetch dir main rule ≡ Ok state → AreBound fetch dir main rule all state
start-bound fetch dir main rule all state e =
    let made : List Loaded → List (List Pair) → State = λ objects pairs. record { objects = objects; pairs = pairs; openings = []; start_count = length objects; starts = 0 ∷ [] } in
    let loaded = bind_ok (with_needed fetch dir [] main) (λ objects. pairs_from rule dir (objects_of objects) (length objects) [] 0 >>= λ pairs. Ok (made objects pairs)) state e in
    let objects : List Loaded = loaded.0 in
    let bound = bind_ok (pairs_from rule dir (objects_of objects) (length objects) [] 0) (λ pairs. Ok (made objects pairs)) state loaded.2 in
    let pairs : List (List Pair) = bound.0 in
    let are = are-pairs rule dir objects (length objects) [] 0 pairs bound.1 in
    let long = are.long in
    subst (AreBound fetch dir main rule all) (ok_same (made objects pairs) state bound.2) (record {
      count = omega (arith, long);
      bound = λ i lt. record {
        before = 0;
        objects = objects;
        start_count = length objects;
        openings = [];
        round = of_start loaded.1 refl refl refl;
        from = omega arith;
        to = lt;
        later = [];
        begins = sym (append-nil objects);
        wanted =
            let at : 0 + i ≡ i = omega arith in
            subst (λ (j : ℕ). wanted_pairs (setting_of rule (objects_of objects) (length objects) [] j) ≡ Ok (get_or pairs i [])) at (are.wanted i (omega (arith, lt)));
      };
    })

-- an object that was bound stays so as others are loaded behind it
bound-stays : (fetch : Fetch) (dir main : List ℕ) (rule : Rule) (all : List Call) (state next : State) (more : List Loaded) (pairs : List (List Pair)) (i : ℕ) → i < length state.pairs → next.objects ≡ state.objects ++ more → next.pairs ≡ state.pairs ++ pairs
    → IsBoundAt fetch dir main rule all state i → IsBoundAt fetch dir main rule all next i
bound-stays fetch dir main rule all state next more pairs i lt objects_are pairs_are h =
    let same : get_or next.pairs i [] ≡ get_or state.pairs i [] = ap (λ (ps : List (List Pair)). get_or ps i []) pairs_are ∙ get_or_append_left state.pairs pairs [] i lt in
    record {
      before = h.before;
      objects = h.objects;
      start_count = h.start_count;
      openings = h.openings;
      round = h.round;
      from = h.from;
      to = h.to;
      later = h.later ++ more;
      begins = objects_are ∙ ap (λ (os : List Loaded). os ++ more) h.begins ∙ append_assoc h.objects h.later more;
      wanted = h.wanted ∙ ap Ok (sym same);
    }

low-or-high : (i n : ℕ) → (i < n) ⊎ (n ≤ i)
low-or-high zero zero = inr (omega arith)
low-or-high zero (suc n) = inl (omega arith)
low-or-high (suc i) zero = inr (omega arith)
low-or-high (suc i) (suc n) = go (low-or-high i n)
  where
    go : (i < n) ⊎ (n ≤ i) → (suc i < suc n) ⊎ (suc n ≤ suc i)
    go (inl lt) = inl (omega (arith, lt))
    go (inr le) = inr (omega (arith, le))

call-bound : (fetch : Fetch) (dir main : List ℕ) (rule : Rule) (all : List Call) (state : State) (call : Call) (next : State) → IsCallOf fetch dir main rule all state call → AreBound fetch dir main rule all state
    → opened fetch dir rule state call.name (mode_of call.form) ≡ Ok next → AreBound fetch dir main rule all next
call-bound fetch dir main rule all state call next made_by h e =
    let name : List ℕ = call.name in
    let mode : Mode = mode_of call.form in
    let made : List Loaded → List (List Pair) → State = λ objects pairs. record { objects = objects; pairs = state.pairs ++ pairs; openings = state.openings ++ opening_of objects name mode ∷ []; start_count = state.start_count; starts = state.starts ++ start_between (length state.objects) (length objects) } in
    let loaded = bind_ok (with_named fetch dir state.objects name) (λ objects. pairs_from rule dir (objects_of objects) state.start_count (state.openings ++ opening_of objects name mode ∷ []) (length state.objects) >>= λ pairs. Ok (made objects pairs)) next e in
    let objects : List Loaded = loaded.0 in
    let openings : List Opening = state.openings ++ opening_of objects name mode ∷ [] in
    let bound = bind_ok (pairs_from rule dir (objects_of objects) state.start_count openings (length state.objects)) (λ pairs. Ok (made objects pairs)) next loaded.2 in
    let pairs : List (List Pair) = bound.0 in
    let are = are-pairs rule dir objects state.start_count openings (length state.objects) pairs bound.1 in
    let more : List Loaded = drop (length state.objects) objects in
    let front = with_named-Begins fetch dir state.objects name (is_some (answerer state.objects name)) objects loaded.1 in
    let is : objects ≡ state.objects ++ more = sym (take-append-drop (length state.objects) objects) ∙ ap (λ (xs : List Loaded). xs ++ more) front in
    let split = ap length is ∙ length-append state.objects more in
    let long = are.long in
    let count = h.count in
    let both = length-append state.pairs pairs in
    subst (AreBound fetch dir main rule all) (ok_same (made objects pairs) next bound.2) (record {
      count = omega (arith, both, long, count, split);
      bound = λ i lt. ⊎_elim
          (λ low. bound-stays fetch dir main rule all state (made objects pairs) more pairs i (omega (arith, low, count)) is refl (h.bound i low))
          (λ high.
          let k : ℕ = i - length state.objects in
          let at : length state.objects + k ≡ i = omega (arith, high) in
          let place : i ≡ length state.pairs + k = omega (arith, at, count) in
          let there : get_or (state.pairs ++ pairs) i [] ≡ get_or pairs k [] = ap (λ (j : ℕ). get_or (state.pairs ++ pairs) j []) place ∙ get_or-append-add state.pairs pairs k [] in
          record {
            before = length state.objects;
            objects = objects;
            start_count = state.start_count;
            openings = openings;
            round = of_call state call made_by loaded.1 refl refl refl;
            from = high;
            to = lt;
            later = [];
            begins = sym (append-nil objects);
            wanted = subst (λ (j : ℕ). wanted_pairs (setting_of rule (objects_of objects) state.start_count openings j) ≡ Ok (get_or pairs k [])) at (are.wanted k (omega (arith, at, lt))) ∙ ap Ok (sym there);
          })
          (low-or-high i (length state.objects));
    })

-- ---- runs

one-bound : (fetch : Fetch) (dir main : List ℕ) (rule : Rule) (all : List Call) (state : State) (call : Call) → IsCallOf fetch dir main rule all state call → AreBound fetch dir main rule all state → AreBound fetch dir main rule all (after_call fetch dir rule state call)
one-bound fetch dir main rule all state call made_by h = go (opened fetch dir rule state call.name (mode_of call.form)) refl
  where
    go : (r : Result State OpenRefusal) → opened fetch dir rule state call.name (mode_of call.form) ≡ r → AreBound fetch dir main rule all (result_unwrap_or r state)
    go (Ok next) e = call-bound fetch dir main rule all state call next made_by h e
    go (Err refusal) e = h

calls-bound : (fetch : Fetch) (dir main : List ℕ) (rule : Rule) (all : List Call) (state : State) (calls : List Call) → IsAt fetch dir main rule all state calls → AreBound fetch dir main rule all state → AreBound fetch dir main rule all (after_calls fetch dir rule state calls)
calls-bound fetch dir main rule all state [] at h = h
calls-bound fetch dir main rule all state (call ∷ calls) at h =
    calls-bound fetch dir main rule all (after_call fetch dir rule state call) calls (next-at fetch dir main rule all state call calls at)
    (one-bound fetch dir main rule all state call (call-at fetch dir main rule all state call calls at) h)

pub run-bound : (fetch : Fetch) (dir main : List ℕ) (rule : Rule) (calls : List Call) (state : State) → (outcome_from fetch dir rule calls (started fetch dir main rule)).«end» ≡ Ok state
    → (i : ℕ) → i < length state.objects → IsBoundAt fetch dir main rule calls state i
run-bound fetch dir main rule calls state e = go (started fetch dir main rule) refl e
  where
    go : (r : Result State OpenRefusal) → started fetch dir main rule ≡ r → (outcome_from fetch dir rule calls r).«end» ≡ Ok state → (i : ℕ) → i < length state.objects → IsBoundAt fetch dir main rule calls state i
    go (Err refusal) is e = absurd cc
    go (Ok first) is e =
        (subst (AreBound fetch dir main rule calls) (unless-ended (ending_of (refused_calls fetch dir rule first calls)) (after_calls fetch dir rule first calls) state e)
        (calls-bound fetch dir main rule calls first calls (begins-at fetch dir main rule calls first is) (start-bound fetch dir main rule calls first is))).bound
