-- The initial calls of a session are those of the state for which it stands.
use Rattle.std.proofs.Common.{◌≡◌, ◌<◌, ℕ, Bool, true, false, cond, List, [], ◌∷◌, length, map, Option, Some, None, refl, sym, ap, ap₂, subst, ◌+◌, ◌∙◌, arith}
use Rattle.std.specs.Prelude.{All, flat_map}
use Rattle.std.proofs.lemmas.List.Concat.{flat_map-cons}
use Rattle.std.proofs.lemmas.List.Elements.{All-append, All-cons, All-head, All-nil, All-tail}
use Rattle.cap_elf.specs.DynView.{DynRecords, DynValue}
use Rattle.cap_own.specs.Cap.{Mapping}
use Rattle.cap_init.specs.Calls.{array_granules, calls_in, calls_of, found_call, memory_at}
use Rattle.cap_init.specs.declared.call.Call.{Call}
use Rattle.cap_init.specs.Post.{AreStarts, AscendFrom as AscendUp, init_order}
use Rattle.cap_mem.specs.Tagged.{TaggedMemory, TaggedWord, tagged_word}
use Rattle.cap_scope.specs.Chosen.{object_at}
use Rattle.cap_session.specs.Loading.{Loaded, dependencies, records_of}
use Rattle.cap_session.specs.Mappings.{IsMappingOf, IsMemoryOf}
use Rattle.cap_session.specs.Session.{AscendFrom, IsSession, SessionValue, StandsFor, all_records}
use Rattle.std.specs.List.{AllZip}
use Rattle.cap_session.specs.State.{State, memories_of}
use Rattle.purecap.specs.Answer.{called}
use Rattle.purecap.specs.Initial.{calls_report, session_calls}
use Rattle.purecap.specs.Story.{Product, Printed}

map-length : {A B : Type 0} (f : A → B) (xs : List A) → length (map f xs) ≡ length xs
map-length f [] = refl
map-length f (x ∷ xs) = let rest = map-length f xs in omega (arith, rest)

names_of : (objects : List Loaded) → map (λ (name : List ℕ × Bool). name.0) (map (λ (o : Loaded). (o.name, true)) objects) ≡ map (λ o. o.name) objects
names_of [] = refl
names_of (o ∷ objects) = ap (λ (rest : List (List ℕ)). o.name ∷ rest) (names_of objects)

-- the report by its parts
abbrev report_by : List (List ℕ × Bool) → List DynRecords → List TaggedMemory → List (List ℕ) → List ℕ → ℕ → Product
report_by names objects memories deps starts count =
    Printed (calls_report (map (λ name. name.0) names) (calls_of objects memories (init_order deps starts count)))

pub session_called : (s : SessionValue) → (state : State) → StandsFor s state → Printed (session_calls s) ≡ called state
session_called s state stands =
    let count : length s.deps ≡ length state.objects = ap length stands.deps_are ∙ map-length _ state.objects in
    ap (λ (names : List (List ℕ × Bool)). report_by names (all_records s) s.memories s.deps s.starts (length s.deps)) stands.names_are
    ∙ ap (λ (objects : List DynRecords). report_by (map (λ (o : Loaded). (o.name, true)) state.objects) objects s.memories s.deps s.starts (length s.deps)) stands.objects_are
    ∙ ap (λ (memories : List TaggedMemory). report_by (map (λ (o : Loaded). (o.name, true)) state.objects) (map records_of state.objects) memories s.deps s.starts (length s.deps)) stands.memories_are
    ∙ ap (λ (starts : List ℕ). report_by (map (λ (o : Loaded). (o.name, true)) state.objects) (map records_of state.objects) (memories_of state) s.deps starts (length s.deps)) stands.starts_are
    ∙ ap (λ (count : ℕ). report_by (map (λ (o : Loaded). (o.name, true)) state.objects) (map records_of state.objects) (memories_of state) s.deps state.starts count) count
    ∙ ap (λ (deps : List (List ℕ)). report_by (map (λ (o : Loaded). (o.name, true)) state.objects) (map records_of state.objects) (memories_of state) deps state.starts (length state.objects)) stands.deps_are
    ∙ ap (λ (names : List (List ℕ)). Printed (calls_report names (calls_of (map records_of state.objects) (memories_of state) (init_order (dependencies state.objects) state.starts (length state.objects))))) (names_of state.objects)

-- ---- each call names one of the objects

module _ (n : ℕ) where
  abbrev IsNumbered : Call → Type 0
  IsNumbered call = call.object < n

  found_numbered : (number : ℕ) → number < n → (found : Option TaggedWord) → All IsNumbered (found_call number found)
  found_numbered number below None = All-nil IsNumbered
  found_numbered number below (Some w) = by_seal w.cap.sealed
    where
      by_seal : (sealed : Bool) → All IsNumbered (cond sealed (record { slot = w.granule; cursor = w.cap.cursor; object = number } ∷ []) [])
      by_seal true = All-cons IsNumbered _ [] below (All-nil IsNumbered)
      by_seal false = All-nil IsNumbered

  all_numbered : {A : Type 0} (f : A → List Call) (xs : List A) → ((x : A) → All IsNumbered (f x)) → All IsNumbered (flat_map f xs)
  all_numbered f [] each = All-nil IsNumbered
  all_numbered f (x ∷ xs) each = rw (flat_map-cons f x xs) (All-append IsNumbered (f x) (flat_map f xs) (each x) (all_numbered f xs each))

  pub calls_numbered : (objects : List DynRecords) (memories : List TaggedMemory) (order : List ℕ) → All (λ i. i < n) order → All IsNumbered (calls_of objects memories order)
  calls_numbered objects memories [] below = All-nil IsNumbered
  calls_numbered objects memories (i ∷ order) below =
      let calls : ℕ → List Call = λ i. calls_in i (object_at objects i) (memory_at memories i) in
      rw (flat_map-cons calls i order)
      (All-append IsNumbered (calls i) (calls_of objects memories order)
      (all_numbered (λ g. found_call i (tagged_word (memory_at memories i) g)) (array_granules (object_at objects i) (memory_at memories i).base)
      (λ g. found_numbered i (All-head (λ i. i < n) i order below) (tagged_word (memory_at memories i) g)))
      (calls_numbered objects memories order (All-tail (λ i. i < n) i order below)))

-- ---- what a session has

ascending : (from : ℕ) (ns : List ℕ) (limit : ℕ) → AscendFrom from ns limit → AscendUp from ns limit
ascending from [] limit up = up
ascending from (n ∷ ns) limit up = (up.0, ascending (n + 1) ns limit up.1)

-- its starts are those of groups
pub are_starts : (s : SessionValue) → IsSession s → AreStarts s.starts (length s.deps)
are_starts s is =
    let starts = is.starts_are in
    (starts.0, starts.1, subst (AscendUp 1 starts.0) (sym is.closed) (ascending 1 starts.0 (length s.objects) starts.2))

spans : (objects : List DynRecords) (roots : List Mapping) (memories : List TaggedMemory) → AllZip IsMappingOf objects roots → AllZip IsMemoryOf roots memories
    → map (λ (m : TaggedMemory). length m.bytes) memories ≡ map (λ (o : DynRecords). o.span) objects
spans [] [] [] mappings are = refl
spans [] [] (m ∷ memories) mappings are = absurd are
spans [] (root ∷ roots) memories mappings are = absurd mappings
spans (o ∷ objects) [] memories mappings are = absurd mappings
spans (o ∷ objects) (root ∷ roots) [] mappings are = absurd are
spans (o ∷ objects) (root ∷ roots) (m ∷ memories) mappings are =
    ap₂ (λ (n : ℕ) (ns : List ℕ). n ∷ ns) (are.0.1 ∙ mappings.0.size) (spans objects roots memories mappings.1 are.1)

spans_of : (objects : List DynValue) → map (λ (o : DynRecords). o.span) (map (λ (o : DynValue). o.records) objects) ≡ map (λ (o : DynValue). o.records.span) objects
spans_of [] = refl
spans_of (o ∷ objects) = ap (λ (ns : List ℕ). o.records.span ∷ ns) (spans_of objects)

-- each memory has the span of its object
pub session_spans : (s : SessionValue) → IsSession s → map (λ (m : TaggedMemory). length m.bytes) s.memories ≡ map (λ (o : DynValue). o.records.span) s.objects
session_spans s is = spans (all_records s) s.roots s.memories is.roster.mappings_are is.roster.memories_are ∙ spans_of s.objects

-- each call names one of its objects
pub session_numbered : (s : SessionValue) → IsSession s → (order : List ℕ) → All (λ i. i < length s.deps) order
    → All (λ (call : Call). call.object < length s.names) (calls_of (all_records s) s.memories order)
session_numbered s is order below =
    let same : length s.deps ≡ length s.names = is.closed ∙ sym is.roster.name_count in
    calls_numbered (length s.names) (all_records s) s.memories order (subst (λ (n : ℕ). All (λ i. i < n) order) same below)
