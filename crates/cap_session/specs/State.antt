-- The state that a start and calls lead to.
use Rattle.std.specs.Prelude.{ℕ, List, [], ◌∷◌, ◌++◌, length, map, zip, unwrap_or, Result, Ok}
use Rattle.cap_base.specs.Steps.{◌>>=◌}
use Rattle.cap_mem.specs.Tagged.{TaggedMemory}
use Rattle.cap_scope.specs.declared.choice.Rule.{Rule}
use Rattle.cap_scope.specs.Tree.{tree_of}
use Rattle.cap_reloc.specs.Wanted.{Pair}
use Rattle.cap_reloc.specs.Stored.{with_pairs}
use Rattle.cap_session.specs.declared.refusal.Mode.{Mode}
use Rattle.cap_session.specs.declared.refusal.OpenRefusal.{OpenRefusal}
use Rattle.cap_session.specs.Binding.{objects_of, pairs_from}
use Rattle.cap_session.specs.Entering.{start_between}
use Rattle.cap_session.specs.Loading.{Fetch, Loaded, answerer, dependencies, with_needed, with_named}
use Rattle.cap_session.specs.Roster.{placed_memory}
use Rattle.cap_session.specs.Scope.{Opening}

-- what was loaded: the objects in load order, for each of them the pairs of its slots, the openings, how many objects
-- the start loaded, and the first object of the start and of each call that loaded one
pub record State : Type 0 where
  pub objects : List Loaded
  pub pairs : List (List Pair)
  pub openings : List Opening
  pub start_count : ℕ
  pub starts : List ℕ

-- the state after the start
abbrev pub started : Fetch → List ℕ → List ℕ → Rule → Result State OpenRefusal
started fetch dir main rule = do
  objects ← with_needed fetch dir [] main
  pairs ← pairs_from rule dir (objects_of objects) (length objects) [] 0
  Ok (record { objects = objects; pairs = pairs; openings = []; start_count = length objects; starts = 0 ∷ [] })

-- the opening of a library that is loaded
abbrev pub opening_of : List Loaded → List ℕ → Mode → Opening
opening_of objects name mode = record { mode = mode; tree = tree_of (dependencies objects) (unwrap_or (answerer objects name) 0) }

-- the state after one call more, which opens a library
abbrev pub opened : Fetch → List ℕ → Rule → State → List ℕ → Mode → Result State OpenRefusal
opened fetch dir rule state name mode = do
  objects ← with_named fetch dir state.objects name
  let openings = state.openings ++ opening_of objects name mode ∷ []
  pairs ← pairs_from rule dir (objects_of objects) state.start_count openings (length state.objects)
  Ok (record {
    objects = objects;
    pairs = state.pairs ++ pairs;
    openings = openings;
    start_count = state.start_count;
    starts = state.starts ++ start_between (length state.objects) (length objects);
  })

-- the memory of a loaded object
abbrev pub memory_of : Loaded × List Pair → TaggedMemory
memory_of o = with_pairs o.1 (placed_memory o.0)

-- the memories of the objects, in load order
abbrev pub memories_of : State → List TaggedMemory
memories_of state = map memory_of (zip state.objects state.pairs)
