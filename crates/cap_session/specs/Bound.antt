-- How the slots of each object of a state were bound: by the start or the call that loaded it, and the openings until then.
use Rattle.std.specs.Prelude.{◌≡◌, ℕ, ◌+◌, ◌<◌, ◌≤◌, List, [], ◌∷◌, ◌++◌, length, Ok, slice_index_or}
use Rattle.cap_base.specs.Outside.{Store}
use Rattle.cap_scope.specs.declared.choice.Rule.{Rule}
use Rattle.cap_mem.specs.Tagged.{is_tagged}
use Rattle.cap_reloc.specs.Shown.{ShowsMeant}
use Rattle.cap_reloc.specs.Wanted.{wanted_pairs}
use Rattle.cap_session.specs.Binding.{objects_of, setting_of}
use Rattle.cap_session.specs.Calls.{Call, mode_of, outcome_of}
use Rattle.cap_session.specs.Exact.{IsCallOf}
use Rattle.cap_session.specs.Loading.{Fetch, Loaded, fetch_from, with_named, with_needed}
use Rattle.cap_session.specs.Scope.{Opening}
use Rattle.cap_session.specs.Roster.{placed_memory}
use Rattle.cap_session.specs.State.{State, memory_of, opening_of}

-- what the start of a run loads, or one of its calls behind so many objects; and the openings, its own among them, by which
-- that is bound
pub data IsRound (fetch : Fetch) (dir main : List ℕ) (rule : Rule) (calls : List Call) (before : ℕ) (objects : List Loaded) (start_count : ℕ) (openings : List Opening) : Type 0 where
  of_start : with_needed fetch dir [] main ≡ Ok objects → before ≡ 0 → start_count ≡ length objects → openings ≡ [] → IsRound fetch dir main rule calls before objects start_count openings
  of_call : (state : State) (call : Call) → IsCallOf fetch dir main rule calls state call → with_named fetch dir state.objects call.name ≡ Ok objects → before ≡ length state.objects → start_count ≡ state.start_count → openings ≡ state.openings ++ opening_of objects call.name (mode_of call.form) ∷ [] → IsRound fetch dir main rule calls before objects start_count openings

-- an object of a state: it was loaded by that start or call, and its pairs are those that were wanted then
pub record IsBoundAt (fetch : Fetch) (dir main : List ℕ) (rule : Rule) (calls : List Call) (state : State) (i : ℕ) : Type 0 where
  pub before : ℕ
  pub objects : List Loaded
  pub start_count : ℕ
  pub openings : List Opening
  pub round : IsRound fetch dir main rule calls before objects start_count openings
  pub from : before ≤ i
  pub to : i < length objects
  pub later : List Loaded
  pub begins : state.objects ≡ objects ++ later
  pub wanted : wanted_pairs (setting_of rule (objects_of objects) start_count openings i) ≡ Ok (slice_index_or state.pairs i [])

-- each object of each state that a start and calls lead to
abbrev pub RunsAreBound : Type 0
RunsAreBound =
    (store : Store) (dir main : List ℕ) (rule : Rule) (calls : List Call) (state : State) → (outcome_of (fetch_from store) dir main rule calls).«end» ≡ Ok state
    → (i : ℕ) → i < length state.objects → IsBoundAt (fetch_from store) dir main rule calls state i

-- the memory of such an object shows what its relocations mean
abbrev pub RunsAreShown : Type 0
RunsAreShown =
    (store : Store) (dir main : List ℕ) (rule : Rule) (calls : List Call) (state : State) (i : ℕ) (d : Loaded) → (h : IsBoundAt (fetch_from store) dir main rule calls state i)
    → (let o = slice_index_or state.objects i d in let memory = memory_of (o, slice_index_or state.pairs i []) in ShowsMeant (setting_of rule (objects_of h.objects) h.start_count h.openings i) (placed_memory o).bytes memory.bytes (λ at. is_tagged memory (o.base + at)))
