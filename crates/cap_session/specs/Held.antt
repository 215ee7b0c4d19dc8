-- What an image needs of a state, beyond what holds of every state that is reached.
use Rattle.std.specs.Prelude.{◌≡◌, ℕ, Bool, List, length, map, All, Ok}
use Rattle.std.specs.List.{AllZip}
use Rattle.cap_base.specs.Outside.{Store}
use Rattle.cap_elf.specs.IsRead.{IsShort}
use Rattle.cap_mem.specs.IsMemory.{IsMemory}
use Rattle.cap_mem.specs.Tagged.{TaggedMemory}
use Rattle.cap_scope.specs.declared.choice.Rule.{Rule}
use Rattle.cap_scope.specs.Candidates.{hash_table}
use Rattle.cap_session.specs.Calls.{Call, outcome_of}
use Rattle.cap_session.specs.Loading.{Loaded, fetch_from, records_of}
use Rattle.cap_session.specs.Mappings.{IsName}
use Rattle.cap_session.specs.Session.{HasOwners}
use Rattle.cap_session.specs.State.{State, memories_of}

-- for each object the names of its symbols, each with whether it can be chosen
abbrev pub state_symbols : State → List (List (List ℕ × Bool))
state_symbols state = map (λ o. (hash_table (records_of o)).names) state.objects

-- the memory has the place and the size of the object
abbrev pub IsMappedAt : Loaded → TaggedMemory → Type 0
IsMappedAt o m = (m.base ≡ o.base) × (length m.bytes ≡ (records_of o).span)

-- the words of the objects are names, and those of their symbols are short; each object has its pairs; each memory is
-- sound and has the place and the size of its object, and each tagged word in it has an owner among the objects and the
-- note of one of the owner's symbols
pub record IsHeldState (state : State) : Type 0 where
  pub names : All (λ o. IsName o.name) state.objects
  pub symbol_names : All (λ of. All (λ n. IsShort n.0) of) (state_symbols state)
  pub pair_count : length state.pairs ≡ length state.objects
  pub owners : All (HasOwners (state_symbols state)) (memories_of state)
  pub sound : All IsMemory (memories_of state)
  pub mapped : AllZip IsMappedAt state.objects (memories_of state)

-- each state that a start and calls lead to, where the words are names
abbrev pub RunsAreHeld : Type 0
RunsAreHeld =
    (store : Store) (dir main : List ℕ) (rule : Rule) (calls : List Call) (state : State) → IsName main → All (λ call. IsName call.name) calls
    → (outcome_of (fetch_from store) dir main rule calls).«end» ≡ Ok state → IsHeldState state
