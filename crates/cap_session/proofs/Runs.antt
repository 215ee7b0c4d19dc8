-- What a run of calls says of its files, and of what refuses it for bounds.
use Rattle.std.proofs.Common.{◌≡◌, ℕ, ◌+◌, ◌-◌, Bool, true, false, List, [], ◌∷◌, ◌++◌, length, refl, ap, sym, ◌∙◌, subst}
use Rattle.std.specs.Prelude.{All, IfSome, Option, Some, None, Result, Ok, Err, is_some, nat_le, nat_lt, if◌then◌else◌}
use Rattle.std.specs.Int.{next_multiple_of}
use Rattle.std.specs.Result.{result_unwrap_or}
use Rattle.std.proofs.lemmas.List.Elements.{All-cons, All-head, All-nil, All-push, All-tail}
use Rattle.cap_base.specs.Check.{number_of}
use Rattle.cap_base.specs.Steps.{◌>>=◌}
use Rattle.cap_base.specs.declared.check.Check.TheVariants.{ObjectCount}
use Rattle.cap_scope.specs.declared.choice.Rule.{Rule}
use Rattle.cap_reloc.specs.Wanted.{Pair}
use Rattle.cap_session.specs.declared.form.Form.{Form}
use Rattle.cap_session.specs.declared.refusal.Mode.{Mode}
use Rattle.cap_session.specs.declared.refusal.OpenCause.TheVariants.{Full, Limit}
use Rattle.cap_session.specs.declared.refusal.OpenRefusal.{OpenRefusal}
use Rattle.cap_session.specs.Binding.{objects_of, pairs_from}
use Rattle.cap_session.specs.Calls.{Call, after_call, after_calls, ending_of, is_passed_over, mode_of, notes_of, outcome_from, refused_calls, state_unless}
use Rattle.cap_session.specs.Entering.{start_between}
use Rattle.cap_session.specs.Exact.{GivesRead, IsCallOf, IsFetched, IsInexact, IsReached, IsUnfitIn, by_call, by_start}
use Rattle.cap_session.specs.Loading.{Fetch, Loaded, Source, answerer, at_path, closed, loaded_next, next_free, next_object, one_more, path_of, with_named, with_needed}
use Rattle.cap_session.specs.State.{State, opened, opening_of, started}
use Rattle.cap_session.proofs.Begins.{bind_ok, cause_ok_same, ok_same, seen_ok}
use Rattle.cap_session.proofs.Placed.{PairLaws}
use Rattle.cap_session.proofs.Reached.{one-call, start-reached, unless-ended}
use Rattle.cap_session.proofs.ReadObjects.{closed_by-keeps, object_same, placing, unrefused}
use Rattle.cap_session.proofs.Unfit.{call-unfit, start-unfit}

abbrev AreFetched : Fetch → List Loaded → Type 0
AreFetched fetch objects = All (IsFetched fetch) objects

next-fetched : (fetch : Fetch) (dir : List ℕ) (objects : List Loaded) (name : List ℕ) (more : List Loaded) → AreFetched fetch objects → loaded_next fetch dir objects name ≡ Ok more → AreFetched fetch more
next-fetched fetch dir objects name more h e =
    let path = path_of dir (length objects) name in
    let one = seen_ok (at_path path) (one_more fetch path objects name) more e in
    let found = bind_ok (next_object fetch path (length objects) (next_free objects) name) (λ object. Ok (objects ++ object ∷ [])) more one in
    let few = unrefused (nat_le 256 (length objects)) (Limit (number_of ObjectCount)) (fetch path >>= placing (next_free objects) name) found.0 found.1 in
    let read = bind_ok (fetch path) (placing (next_free objects) name) found.0 few in
    let source : Source = read.0 in
    let base = next_multiple_of (next_free objects) source.records.align in
    let o : Loaded = record { name = name; source = source; base = base } in
    let same = unrefused (nat_lt 0x44000000 (base + source.records.span)) (Full source.records.span (0x44000000 - next_free objects)) (Ok o) found.0 read.2 in
    let is : found.0 ≡ o = sym (object_same o found.0 same) in
    subst (AreFetched fetch) (ap (λ (x : Loaded). objects ++ x ∷ []) (sym is) ∙ cause_ok_same (objects ++ found.0 ∷ []) more found.2)
    (All-push (IsFetched fetch) objects o h (path, read.1))

pub needed-fetched : (fetch : Fetch) (dir : List ℕ) (objects : List Loaded) (name : List ℕ) (last : List Loaded) → AreFetched fetch objects → with_needed fetch dir objects name ≡ Ok last → AreFetched fetch last
needed-fetched fetch dir objects name last h e =
    let next = bind_ok (loaded_next fetch dir objects name) (closed fetch dir) last e in
    closed_by-keeps (AreFetched fetch) (256 - length next.0) fetch dir next.0 last (λ xs name more has. next-fetched fetch dir xs name more has) (next-fetched fetch dir objects name next.0 h next.1) next.2

named-fetched : (fetch : Fetch) (dir : List ℕ) (objects : List Loaded) (name : List ℕ) (found : Bool) (last : List Loaded) → AreFetched fetch objects → (if found then Ok objects else with_needed fetch dir objects name) ≡ Ok last → AreFetched fetch last
named-fetched fetch dir objects name true last h e = subst (AreFetched fetch) (ok_same objects last e) h
named-fetched fetch dir objects name false last h e = needed-fetched fetch dir objects name last h e

start-fetched : (fetch : Fetch) (dir main : List ℕ) (rule : Rule) (state : State) → started fetch dir main rule ≡ Ok state → AreFetched fetch state.objects
start-fetched fetch dir main rule state e =
    let made : List Loaded → List (List Pair) → State = λ objects pairs. record { objects = objects; pairs = pairs; openings = []; start_count = length objects; starts = 0 ∷ [] } in
    let loaded = bind_ok (with_needed fetch dir [] main) (λ objects. pairs_from rule dir (objects_of objects) (length objects) [] 0 >>= λ pairs. Ok (made objects pairs)) state e in
    let bound = bind_ok (pairs_from rule dir (objects_of loaded.0) (length loaded.0) [] 0) (λ pairs. Ok (made loaded.0 pairs)) state loaded.2 in
    subst (λ (s : State). AreFetched fetch s.objects) (ok_same (made loaded.0 bound.0) state bound.2) (needed-fetched fetch dir [] main loaded.0 (All-nil (IsFetched fetch)) loaded.1)

call-fetched : (fetch : Fetch) (dir : List ℕ) (rule : Rule) (state : State) (name : List ℕ) (mode : Mode) (next : State) → AreFetched fetch state.objects → opened fetch dir rule state name mode ≡ Ok next → AreFetched fetch next.objects
call-fetched fetch dir rule state name mode next h e =
    let made : List Loaded → List (List Pair) → State = λ objects pairs. record { objects = objects; pairs = state.pairs ++ pairs; openings = state.openings ++ opening_of objects name mode ∷ []; start_count = state.start_count; starts = state.starts ++ start_between (length state.objects) (length objects) } in
    let loaded = bind_ok (with_named fetch dir state.objects name) (λ objects. pairs_from rule dir (objects_of objects) state.start_count (state.openings ++ opening_of objects name mode ∷ []) (length state.objects) >>= λ pairs. Ok (made objects pairs)) next e in
    let bound = bind_ok (pairs_from rule dir (objects_of loaded.0) state.start_count (state.openings ++ opening_of loaded.0 name mode ∷ []) (length state.objects)) (λ pairs. Ok (made loaded.0 pairs)) next loaded.2 in
    subst (λ (s : State). AreFetched fetch s.objects) (ok_same (made loaded.0 bound.0) next bound.2) (named-fetched fetch dir state.objects name (is_some (answerer state.objects name)) loaded.0 h loaded.1)

-- ---- a run
-- a state of a run
record IsAmong (fetch : Fetch) (state : State) : Type 0 where
  pub reached : IsReached state
  pub fetched : AreFetched fetch state.objects

one-among : (laws : PairLaws) (fetch : Fetch) (dir : List ℕ) (rule : Rule) (state : State) (call : Call) → GivesRead fetch → IsAmong fetch state → IsAmong fetch (after_call fetch dir rule state call)
one-among laws fetch dir rule state call given h = record {
  reached = one-call laws fetch dir rule state call given h.reached;
  fetched = go (opened fetch dir rule state call.name (mode_of call.form)) refl;
}
  where
    go : (r : Result State OpenRefusal) → opened fetch dir rule state call.name (mode_of call.form) ≡ r → AreFetched fetch (result_unwrap_or r state).objects
    go (Ok next) e = call-fetched fetch dir rule state call.name (mode_of call.form) next h.fetched e
    go (Err refusal) e = h.fetched

calls-among : (laws : PairLaws) (fetch : Fetch) (dir : List ℕ) (rule : Rule) (state : State) (calls : List Call) → GivesRead fetch → IsAmong fetch state → IsAmong fetch (after_calls fetch dir rule state calls)
calls-among laws fetch dir rule state [] given h = h
calls-among laws fetch dir rule state (call ∷ calls) given h = calls-among laws fetch dir rule (after_call fetch dir rule state call) calls given (one-among laws fetch dir rule state call given h)

first-among : (laws : PairLaws) (fetch : Fetch) (dir main : List ℕ) (rule : Rule) (state : State) → GivesRead fetch → started fetch dir main rule ≡ Ok state → IsAmong fetch state
first-among laws fetch dir main rule state given e = record { reached = start-reached laws fetch dir main rule state given e; fetched = start-fetched fetch dir main rule state e }

pub run-among : (laws : PairLaws) (fetch : Fetch) (dir main : List ℕ) (rule : Rule) (calls : List Call) (state : State) → GivesRead fetch → (outcome_from fetch dir rule calls (started fetch dir main rule)).«end» ≡ Ok state → AreFetched fetch state.objects
run-among laws fetch dir main rule calls state given e = go (started fetch dir main rule) refl e
  where
    go : (r : Result State OpenRefusal) → started fetch dir main rule ≡ r → (outcome_from fetch dir rule calls r).«end» ≡ Ok state → AreFetched fetch state.objects
    go (Err refusal) is e = absurd cc
    go (Ok first) is e =
        subst (λ (s : State). AreFetched fetch s.objects) (unless-ended (ending_of (refused_calls fetch dir rule first calls)) (after_calls fetch dir rule first calls) state e)
        (calls-among laws fetch dir rule first calls given (first-among laws fetch dir main rule first given is)).fetched

abbrev IsBlamed : Fetch → List ℕ → List ℕ → Rule → List Call → OpenRefusal → Type 0
IsBlamed fetch dir main rule all refusal = IsInexact refusal → IsUnfitIn fetch dir main rule all refusal

start-blamed : (laws : PairLaws) (fetch : Fetch) (dir main : List ℕ) (rule : Rule) (all : List Call) (refusal : OpenRefusal) → GivesRead fetch → started fetch dir main rule ≡ Err refusal → IsBlamed fetch dir main rule all refusal
start-blamed laws fetch dir main rule all refusal given e inexact =
    let by = start-unfit laws fetch dir main rule refusal given e inexact in
    record {
      objects = by.loaded;
      start_count = length by.loaded;
      openings = [];
      loaded_by = by_start by.objects_are refl refl;
      fetched = needed-fetched fetch dir [] main by.loaded (All-nil (IsFetched fetch)) by.objects_are;
      is_unfit = by.is_unfit;
    }

call-blamed : (laws : PairLaws) (fetch : Fetch) (dir main : List ℕ) (rule : Rule) (all : List Call) (state : State) (call : Call) (refusal : OpenRefusal) → GivesRead fetch → IsAmong fetch state → IsCallOf fetch dir main rule all state call
    → opened fetch dir rule state call.name (mode_of call.form) ≡ Err refusal → IsBlamed fetch dir main rule all refusal
call-blamed laws fetch dir main rule all state call refusal given h made e inexact =
    let by = call-unfit laws fetch dir rule state call.name (mode_of call.form) refusal given h.reached e inexact in
    record {
      objects = by.loaded;
      start_count = state.start_count;
      openings = state.openings ++ opening_of by.loaded call.name (mode_of call.form) ∷ [];
      loaded_by = by_call state call made by.objects_are refl refl;
      fetched = named-fetched fetch dir state.objects call.name (is_some (answerer state.objects call.name)) by.loaded h.fetched by.objects_are;
      is_unfit = by.is_unfit;
    }

abbrev OfRefusal : (OpenRefusal → Type 0) → Form × OpenRefusal → Type 0
OfRefusal Q r = Q r.1

one-behind : (xs : List Call) (x : Call) (ys : List Call) → (xs ++ x ∷ []) ++ ys ≡ xs ++ x ∷ ys
one-behind [] x ys = refl
one-behind (z ∷ xs) x ys = ap (λ (r : List Call). z ∷ r) (one-behind xs x ys)

after-one : (fetch : Fetch) (dir : List ℕ) (rule : Rule) (state : State) (before : List Call) (call : Call)
    → after_calls fetch dir rule state (before ++ call ∷ []) ≡ after_call fetch dir rule (after_calls fetch dir rule state before) call
after-one fetch dir rule state [] call = refl
after-one fetch dir rule state (c ∷ before) call = after-one fetch dir rule (after_call fetch dir rule state c) before call

-- the calls that are left, behind others of the run
pub record IsAt (fetch : Fetch) (dir main : List ℕ) (rule : Rule) (all : List Call) (state : State) (left : List Call) : Type 0 where
  pub first : State
  pub begun : started fetch dir main rule ≡ Ok first
  pub before : List Call
  pub calls_are : all ≡ before ++ left
  pub state_is : state ≡ after_calls fetch dir rule first before

pub next-at : (fetch : Fetch) (dir main : List ℕ) (rule : Rule) (all : List Call) (state : State) (call : Call) (left : List Call) → IsAt fetch dir main rule all state (call ∷ left) → IsAt fetch dir main rule all (after_call fetch dir rule state call) left
next-at fetch dir main rule all state call left h = record {
  first = h.first;
  begun = h.begun;
  before = h.before ++ call ∷ [];
  calls_are = h.calls_are ∙ sym (one-behind h.before call left);
  state_is = ap (λ (s : State). after_call fetch dir rule s call) h.state_is ∙ sym (after-one fetch dir rule h.first h.before call);
}

pub call-at : (fetch : Fetch) (dir main : List ℕ) (rule : Rule) (all : List Call) (state : State) (call : Call) (left : List Call) → IsAt fetch dir main rule all state (call ∷ left) → IsCallOf fetch dir main rule all state call
call-at fetch dir main rule all state call left h =
    record { first = h.first; begun = h.begun; before = h.before; later = left; calls_are = h.calls_are; state_is = h.state_is }

calls-blamed : (laws : PairLaws) (fetch : Fetch) (dir main : List ℕ) (rule : Rule) (all : List Call) (state : State) (calls : List Call) → GivesRead fetch → IsAmong fetch state → IsAt fetch dir main rule all state calls
    → All (OfRefusal (IsBlamed fetch dir main rule all)) (refused_calls fetch dir rule state calls)
calls-blamed laws fetch dir main rule all state [] given h at = All-nil (OfRefusal (IsBlamed fetch dir main rule all))
calls-blamed laws fetch dir main rule all state (call ∷ calls) given h at =
    go (calls-blamed laws fetch dir main rule all (after_call fetch dir rule state call) calls given (one-among laws fetch dir rule state call given h) (next-at fetch dir main rule all state call calls at))
    (opened fetch dir rule state call.name (mode_of call.form)) refl
  where
    go : All (OfRefusal (IsBlamed fetch dir main rule all)) (refused_calls fetch dir rule (after_call fetch dir rule state call) calls) → (r : Result State OpenRefusal) → opened fetch dir rule state call.name (mode_of call.form) ≡ r
        → All (OfRefusal (IsBlamed fetch dir main rule all)) (elim r [ Ok next ↦ refused_calls fetch dir rule (after_call fetch dir rule state call) calls | Err refusal ↦ (call.form, refusal) ∷ refused_calls fetch dir rule (after_call fetch dir rule state call) calls ])
    go rest (Ok next) e = rest
    go rest (Err refusal) e =
        All-cons (OfRefusal (IsBlamed fetch dir main rule all)) (call.form, refusal) (refused_calls fetch dir rule (after_call fetch dir rule state call) calls)
        (call-blamed laws fetch dir main rule all state call refusal given h (call-at fetch dir main rule all state call calls at) e) rest

notes-of : (Q : OpenRefusal → Type 0) (rs : List (Form × OpenRefusal)) → All (OfRefusal Q) rs → All Q (notes_of rs)
notes-of Q [] h = All-nil Q
notes-of Q (r ∷ rs) h = go (is_passed_over r) (notes-of Q rs (All-tail (OfRefusal Q) r rs h))
  where
    go : (b : Bool) → All Q (notes_of rs) → All Q (if b then r.1 ∷ notes_of rs else [])
    go true rest = All-cons Q r.1 (notes_of rs) (All-head (OfRefusal Q) r rs h) rest
    go false rest = All-nil Q

ending-of : (Q : OpenRefusal → Type 0) (rs : List (Form × OpenRefusal)) → All (OfRefusal Q) rs → IfSome (ending_of rs) Q
ending-of Q [] h = tt
ending-of Q (r ∷ rs) h = go (is_passed_over r) (ending-of Q rs (All-tail (OfRefusal Q) r rs h))
  where
    go : (b : Bool) → IfSome (ending_of rs) Q → IfSome (if b then ending_of rs else Some r.1) Q
    go true rest = rest
    go false rest = All-head (OfRefusal Q) r rs h

ended-by : (Q : OpenRefusal → Type 0) (o : Option OpenRefusal) (state : State) (refusal : OpenRefusal) → IfSome o Q → state_unless o state ≡ Err refusal → Q refusal
ended-by Q None state refusal h e = absurd cc
ended-by Q (Some r) state refusal h e = let same : r ≡ refusal = cc in subst Q same h

pub begins-at : (fetch : Fetch) (dir main : List ℕ) (rule : Rule) (calls : List Call) (first : State) → started fetch dir main rule ≡ Ok first → IsAt fetch dir main rule calls first calls
begins-at fetch dir main rule calls first is = record { first = first; begun = is; before = []; calls_are = refl; state_is = refl }

pub ended-blamed : (laws : PairLaws) (fetch : Fetch) (dir main : List ℕ) (rule : Rule) (calls : List Call) (refusal : OpenRefusal) → GivesRead fetch → (outcome_from fetch dir rule calls (started fetch dir main rule)).«end» ≡ Err refusal → IsBlamed fetch dir main rule calls refusal
ended-blamed laws fetch dir main rule calls refusal given e = go (started fetch dir main rule) refl e
  where
    go : (r : Result State OpenRefusal) → started fetch dir main rule ≡ r → (outcome_from fetch dir rule calls r).«end» ≡ Err refusal → IsBlamed fetch dir main rule calls refusal
    go (Err first) is e = let same : first ≡ refusal = cc in subst (IsBlamed fetch dir main rule calls) same (start-blamed laws fetch dir main rule calls first given is)
    go (Ok first) is e =
        ended-by (IsBlamed fetch dir main rule calls) (ending_of (refused_calls fetch dir rule first calls)) (after_calls fetch dir rule first calls) refusal
        (ending-of (IsBlamed fetch dir main rule calls) (refused_calls fetch dir rule first calls) (calls-blamed laws fetch dir main rule calls first calls given (first-among laws fetch dir main rule first given is) (begins-at fetch dir main rule calls first is))) e

pub noted-blamed : (laws : PairLaws) (fetch : Fetch) (dir main : List ℕ) (rule : Rule) (calls : List Call) → GivesRead fetch → All (IsBlamed fetch dir main rule calls) (outcome_from fetch dir rule calls (started fetch dir main rule)).notes
noted-blamed laws fetch dir main rule calls given = go (started fetch dir main rule) refl
  where
    go : (r : Result State OpenRefusal) → started fetch dir main rule ≡ r → All (IsBlamed fetch dir main rule calls) (outcome_from fetch dir rule calls r).notes
    go (Err first) is = All-nil (IsBlamed fetch dir main rule calls)
    go (Ok first) is =
        notes-of (IsBlamed fetch dir main rule calls) (refused_calls fetch dir rule first calls) (calls-blamed laws fetch dir main rule calls first calls given (first-among laws fetch dir main rule first given is) (begins-at fetch dir main rule calls first is))
