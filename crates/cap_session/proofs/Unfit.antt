-- A start and a call are refused for bounds only by an object that doesn't fit.
use Rattle.std.proofs.Common.{◌≡◌, ℕ, ◌-◌, ◌<◌, ◌≤◌, ⊎_elim, List, [], ◌∷◌, ◌++◌, length, map, drop, ap, sym, ◌∙◌, subst, arith}
use Rattle.std.specs.Prelude.{All, IfSome, Option, Some, None, Result, Ok, Err, is_some}
use Rattle.std.proofs.lemmas.Bool.{cases_lt}
use Rattle.std.proofs.lemmas.List.{get_or_past, length-append, length-map, take-append-drop}
use Rattle.std.proofs.lemmas.List.Elements.{All-nil}
use Rattle.cap_base.specs.Outside.{Store}
use Rattle.cap_base.specs.Steps.{◌>>=◌}
use Rattle.cap_elf.specs.DynView.{DynRecords}
use Rattle.cap_fits.specs.Fits.{Fits}
use Rattle.cap_scope.specs.declared.choice.Hit.{Hit}
use Rattle.cap_scope.specs.declared.choice.Rule.{Rule}
use Rattle.cap_scope.specs.Chosen.{no_records, object_at}
use Rattle.cap_reloc.specs.declared.refusal.RelocRefusal.{RelocRefusal}
use Rattle.cap_reloc.specs.declared.refusal.RelocRefusal.TheVariants as relocs
use Rattle.cap_reloc.specs.Binding.{IsUnfitCause}
use Rattle.cap_reloc.specs.Wanted.{Pair, Setting, wanted_pairs}
use Rattle.cap_session.specs.declared.refusal.Mode.{Mode}
use Rattle.cap_session.specs.declared.refusal.OpenCause.{OpenCause}
use Rattle.cap_session.specs.declared.refusal.OpenCause.TheVariants.{NoFile, Malformed, Unsupported, Unresolved, Inexact, Full, Limit, ReadFault, NoMemory}
use Rattle.cap_session.specs.declared.refusal.OpenRefusal.{OpenRefusal}
use Rattle.cap_session.specs.Binding.{objects_of, pairs_for, pairs_from, reloc_refusal, setting_of}
use Rattle.cap_session.specs.Entering.{start_between}
use Rattle.cap_session.specs.Exact.{GivesRead, IsInexact, IsReached, IsUnfit, IsUnfitCall, IsUnfitStart, InexactIsUnfit, IsInexactCause, StoresGiveRead, blamed}
use Rattle.cap_session.specs.Loading.{Fetch, Loaded, answerer, fetch_from, records_of, with_named, with_needed}
use Rattle.cap_session.specs.Refused.{IsRefusedBy, NamesNoFile}
use Rattle.cap_session.specs.Scope.{Opening}
use Rattle.cap_session.specs.State.{State, opened, opening_of, started}
use Rattle.cap_session.proofs.Begins.{with_named-Begins}
use Rattle.cap_session.proofs.Gathered.{as-err, bind-err, refused-at}
use Rattle.cap_session.proofs.Given.{named-other, needed-other}
use Rattle.cap_session.proofs.Placed.{IsRelocated, PairLaws, is-placed, roots_from}
use Rattle.cap_session.proofs.Reached.{AreRelocated, call-relocated, relocated-at, some-of}
use Rattle.cap_session.proofs.ReadObjects.{named-loads, needed-loads, none-loaded}

none-fits : Fits no_records
none-fits = record { data_exact = λ k. All-nil _; code_exact = λ k. tt }

-- an object that doesn't fit is there
there : (objects : List DynRecords) (i : ℕ) → (Fits (object_at objects i) → ⊥) → i < length objects
there objects i unfit =
    ⊎_elim (λ (lt : i < length objects). lt)
    (λ (ge : length objects ≤ i). absurd (unfit (subst Fits (sym (get_or_past objects i no_records ge)) none-fits)))
    (cases_lt i (length objects))

blamed-unfit : (setting : Setting) (hit : Option Hit) (base len : ℕ) → IsUnfitCause setting (relocs.Inexact hit base len) → Fits (object_at setting.objects (blamed setting.index hit)) → ⊥
blamed-unfit setting None base len h = h
blamed-unfit setting (Some hit) base len h = h

-- why an object is refused, where its bounds are the cause
unfit-by : (laws : PairLaws) (rule : Rule) (dir : List ℕ) (objects : List Loaded) (start_count : ℕ) (openings : List Opening) (i : ℕ) (refusal : OpenRefusal) (r : RelocRefusal) → IsRelocated objects start_count openings i
    → wanted_pairs (setting_of rule (objects_of objects) start_count openings i) ≡ Err r → refusal ≡ reloc_refusal dir (objects_of objects) i r → IsInexact refusal → IsUnfit rule dir objects start_count openings refusal
unfit-by laws rule dir objects start_count openings i refusal (relocs.Malformed check at) h e is inexact = absurd (subst IsInexact is inexact)
unfit-by laws rule dir objects start_count openings i refusal (relocs.Unsupported check at) h e is inexact = absurd (subst IsInexact is inexact)
unfit-by laws rule dir objects start_count openings i refusal (relocs.Unresolved symbol) h e is inexact = absurd (subst IsInexact is inexact)
unfit-by laws rule dir objects start_count openings i refusal relocs.NoMemory h e is inexact = absurd (subst IsInexact is inexact)
unfit-by laws rule dir objects start_count openings i refusal (relocs.Inexact hit base len) h e is inexact =
    let setting : Setting = setting_of rule (objects_of objects) start_count openings i in
    let cause = laws.unfit (roots_from 0 objects) setting (relocs.Inexact hit base len) (is-placed rule objects start_count openings i h) e in
    let unfit : Fits (object_at (map records_of objects) (blamed i hit)) → ⊥ = blamed-unfit setting hit base len cause in
    let inside = there (map records_of objects) (blamed i hit) unfit in
    let many = length-map objects records_of in
    record {
      index = i;
      hit = hit;
      base = base;
      len = len;
      relocated = h.index;
      refused = e;
      is_refusal = is;
      inside = omega (arith, inside, many);
      unfit = unfit;
    }

pairs-unfit : (laws : PairLaws) (rule : Rule) (dir : List ℕ) (objects : List Loaded) (start_count : ℕ) (openings : List Opening) (from : ℕ) (refusal : OpenRefusal) → AreRelocated objects start_count openings → from ≤ length objects
    → pairs_from rule dir (objects_of objects) start_count openings from ≡ Err refusal → IsInexact refusal → IsUnfit rule dir objects start_count openings refusal
pairs-unfit laws rule dir objects start_count openings from refusal h low e inexact =
    let many = length-map objects records_of in
    let at = refused-at (pairs_for rule dir (objects_of objects) start_count openings) from (length (map records_of objects) - from) refusal e in
    let to = at.2 in
    let by = as-err (reloc_refusal dir (objects_of objects) at.0) (wanted_pairs (setting_of rule (objects_of objects) start_count openings at.0)) refusal at.3 in
    unfit-by laws rule dir objects start_count openings at.0 refusal by.0 (relocated-at objects start_count openings at.0 h (omega (arith, to, many, low))) by.1 by.2 inexact

pub start-unfit : (laws : PairLaws) (fetch : Fetch) (dir main : List ℕ) (rule : Rule) (refusal : OpenRefusal) → GivesRead fetch → started fetch dir main rule ≡ Err refusal → IsUnfitStart fetch dir main rule refusal
start-unfit laws fetch dir main rule refusal given e inexact =
    let made : List Loaded → List (List Pair) → State = λ objects pairs. record { objects = objects; pairs = pairs; openings = []; start_count = length objects; starts = 0 ∷ [] } in
    ⊎_elim (λ (first : with_needed fetch dir [] main ≡ Err refusal). absurd (needed-other fetch dir [] main given refusal first inexact))
    (λ (rest : (objects : List Loaded) × (with_needed fetch dir [] main ≡ Ok objects) × ((pairs_from rule dir (objects_of objects) (length objects) [] 0 >>= λ pairs. Ok (made objects pairs)) ≡ Err refusal)).
    let objects : List Loaded = rest.0 in
    let are = needed-loads fetch dir [] main objects given none-loaded rest.1 in
    let low : length objects ≤ length objects = omega arith in
    let rel : AreRelocated objects (length objects) [] = record { loaded = are.loaded; start_few = low; trees = All-nil (λ (o : Opening). All (λ j. j < length objects) o.tree) } in
    ⊎_elim (λ (refused : pairs_from rule dir (objects_of objects) (length objects) [] 0 ≡ Err refusal).
    record { loaded = objects; objects_are = rest.1; is_unfit = pairs-unfit laws rule dir objects (length objects) [] 0 refusal rel (omega arith) refused inexact })
    (λ (last : (pairs : List (List Pair)) × (pairs_from rule dir (objects_of objects) (length objects) [] 0 ≡ Ok pairs) × (◌≡◌ {A = Result State OpenRefusal} (Ok (made objects pairs)) (Err refusal))). absurd (let none = last.2 in cc))
    (bind-err (pairs_from rule dir (objects_of objects) (length objects) [] 0) (λ pairs. Ok (made objects pairs)) refusal rest.2))
    (bind-err (with_needed fetch dir [] main) (λ objects. pairs_from rule dir (objects_of objects) (length objects) [] 0 >>= λ pairs. Ok (made objects pairs)) refusal e)

pub call-unfit : (laws : PairLaws) (fetch : Fetch) (dir : List ℕ) (rule : Rule) (state : State) (name : List ℕ) (mode : Mode) (refusal : OpenRefusal) → GivesRead fetch → IsReached state → opened fetch dir rule state name mode ≡ Err refusal → IsUnfitCall fetch dir rule state name mode refusal
call-unfit laws fetch dir rule state name mode refusal given h e inexact =
    let made : List Loaded → List (List Pair) → State = λ objects pairs. record { objects = objects; pairs = state.pairs ++ pairs; openings = state.openings ++ opening_of objects name mode ∷ []; start_count = state.start_count; starts = state.starts ++ start_between (length state.objects) (length objects) } in
    let found = is_some (answerer state.objects name) in
    let from : ℕ = length state.objects in
    ⊎_elim (λ (first : with_named fetch dir state.objects name ≡ Err refusal). absurd (named-other fetch dir state.objects name found given refusal first inexact))
    (λ (rest : (objects : List Loaded) × (with_named fetch dir state.objects name ≡ Ok objects) × ((pairs_from rule dir (objects_of objects) state.start_count (state.openings ++ opening_of objects name mode ∷ []) from >>= λ pairs. Ok (made objects pairs)) ≡ Err refusal)).
    let objects : List Loaded = rest.0 in
    let openings : List Opening = state.openings ++ opening_of objects name mode ∷ [] in
    let are = named-loads fetch dir state.objects name found objects given (some-of state h) rest.1 in
    let more : List Loaded = drop from objects in
    let front = with_named-Begins fetch dir state.objects name found objects rest.1 in
    let is : objects ≡ state.objects ++ more = sym (take-append-drop from objects) ∙ ap (λ (xs : List Loaded). xs ++ more) front in
    let rel = call-relocated objects more state name mode h are is in
    let low : from ≤ length objects = (let split = ap length is ∙ length-append state.objects more in omega (arith, split)) in
    ⊎_elim (λ (refused : pairs_from rule dir (objects_of objects) state.start_count openings from ≡ Err refusal).
    record { loaded = objects; objects_are = rest.1; is_unfit = pairs-unfit laws rule dir objects state.start_count openings from refusal rel low refused inexact })
    (λ (last : (pairs : List (List Pair)) × (pairs_from rule dir (objects_of objects) state.start_count openings from ≡ Ok pairs) × (◌≡◌ {A = Result State OpenRefusal} (Ok (made objects pairs)) (Err refusal))). absurd (let none = last.2 in cc))
    (bind-err (pairs_from rule dir (objects_of objects) state.start_count openings from) (λ pairs. Ok (made objects pairs)) refusal rest.2))
    (bind-err (with_named fetch dir state.objects name) (λ objects. pairs_from rule dir (objects_of objects) state.start_count (state.openings ++ opening_of objects name mode ∷ []) from >>= λ pairs. Ok (made objects pairs)) refusal e)

-- ---- over a store that tells its files
for-bounds : {T : Type 0} (wanted : Result T OpenRefusal) (refusal : OpenRefusal) (cause : OpenCause) → IsRefusedBy wanted refusal cause → IsInexactCause cause → wanted ≡ Err refusal
for-bounds wanted refusal NoFile h never = absurd never
for-bounds wanted refusal (Malformed check at) h never = absurd never
for-bounds wanted refusal (Unsupported check at) h never = absurd never
for-bounds wanted refusal (Unresolved name) h never = absurd never
for-bounds wanted refusal (Inexact name base len) h is = h
for-bounds wanted refusal (Full asked left) h never = absurd never
for-bounds wanted refusal (Limit check) h never = absurd never
for-bounds wanted refusal ReadFault h never = absurd never
for-bounds wanted refusal NoMemory h never = absurd never

pub start-by : InexactIsUnfit → StoresGiveRead → (store : Store) (dir main : List ℕ) (rule : Rule) (refusal : OpenRefusal) → IsRefusedBy (started (fetch_from store) dir main rule) refusal refusal.cause → IsUnfitStart (fetch_from store) dir main rule refusal
start-by unfit read store dir main rule refusal h inexact =
    unfit.start (fetch_from store) dir main rule refusal (read store) (for-bounds (started (fetch_from store) dir main rule) refusal refusal.cause h inexact) inexact

pub call-by : InexactIsUnfit → StoresGiveRead → (store : Store) (dir : List ℕ) (rule : Rule) (state : State) (name : List ℕ) (mode : Mode) (refusal : OpenRefusal) → IsReached state → IsRefusedBy (opened (fetch_from store) dir rule state name mode) refusal refusal.cause
    → IsUnfitCall (fetch_from store) dir rule state name mode refusal
call-by unfit read store dir rule state name mode refusal reached h inexact =
    unfit.call (fetch_from store) dir rule state name mode refusal (read store) reached (for-bounds (opened (fetch_from store) dir rule state name mode) refusal refusal.cause h inexact) inexact

-- for want of memory nothing is said of bounds
pub none-starved : (P : OpenRefusal → Store → Type 0) (told : Option Store) (refusal : OpenRefusal) → refusal.cause ≡ NoMemory → IfSome told (λ store. IsInexact refusal → P refusal store)
none-starved P None refusal e = tt
none-starved P (Some store) refusal e = λ inexact. absurd (subst IsInexactCause e inexact)

-- a refusal by which the definition is refused names no file for want of memory
pub refused_starved : {T : Type 0} (wanted : Result T OpenRefusal) (refusal : OpenRefusal) → IsRefusedBy wanted refusal refusal.cause → NamesNoFile refusal
refused_starved wanted refusal h e = subst (λ (cause : OpenCause). IsRefusedBy wanted refusal cause) e h
