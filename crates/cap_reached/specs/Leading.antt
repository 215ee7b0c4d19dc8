-- Where what is reached in the image of a state comes from: along relocations that the loaded objects name.
use Rattle.std.specs.Prelude.{◌≡◌, ℕ, ◌+◌, ◌-◌, ◌<◌, ◌≤◌, true, Contains, List, [], length, Some, slice_index_or}
use Rattle.cap_base.specs.Outside.{Store}
use Rattle.cap_own.specs.Cap.{Cap}
use Rattle.cap_scope.specs.declared.choice.Rule.{Rule}
use Rattle.cap_scope.specs.Chosen.{no_records}
use Rattle.cap_reloc.specs.Meant.{named_cap}
use Rattle.cap_reloc.specs.Wanted.{Relocation, relocations_of, slot_of}
use Rattle.cap_reach.specs.Reach.{PlacedWord, Reached, loads, words_of}
use Rattle.cap_session.specs.Binding.{objects_of, setting_of}
use Rattle.cap_session.specs.Bound.{IsBoundAt}
use Rattle.cap_session.specs.Calls.{Call}
use Rattle.cap_session.specs.Loading.{Fetch, Loaded, fetch_from, records_of}
use Rattle.cap_session.specs.State.{State}
use Rattle.cap_loaded.specs.Images.{LeadsTo, state_image}

abbrev pub none_loaded : Loaded
none_loaded = record { name = []; source = record { bytes = []; records = no_records }; base = 0 }

abbrev pub loaded_at : State → ℕ → Loaded
loaded_at state i = slice_index_or state.objects i none_loaded

-- an object is loaded, and its mapping holds a granule, which has 16 bytes
pub record HoldsGranule (state : State) (i granule : ℕ) : Type 0 where
  pub there : i < length state.objects
  pub low : (loaded_at state i).base ≤ granule
  pub high : granule + 16 ≤ (loaded_at state i).base + (records_of (loaded_at state i)).span

-- in the setting of the start or the call that loaded it, an object names a capability for the slot at one of its offsets
pub record Names (fetch : Fetch) (dir main : List ℕ) (rule : Rule) (calls : List Call) (state : State) (i at : ℕ) (cap : Cap) : Type 0 where
  pub bound : IsBoundAt fetch dir main rule calls state i
  pub relocation : Relocation
  pub is_its : Contains (relocations_of (records_of (loaded_at state i))) relocation
  pub place : (slot_of relocation).0 ≡ at
  pub named : named_cap (setting_of rule (objects_of bound.objects) bound.start_count bound.openings i) relocation ≡ Some cap

-- a step from a granule of one object to a granule of another: the first names a capability there, of the other's mapping,
-- and what is loaded lies in that mapping and within the capability's bounds
pub record IsStep (fetch : Fetch) (dir main : List ℕ) (rule : Rule) (calls : List Call) (state : State) (i j from to : ℕ) : Type 0 where
  pub cap : Cap
  pub names : Names fetch dir main rule calls state i (from - (loaded_at state i).base) cap
  pub owner : cap.owner ≡ j
  pub low : cap.base ≤ to
  pub high : to + 16 ≤ cap.base + cap.len
  pub lands : HoldsGranule state j to

-- from an object along capabilities that it names, and the next one, and so on
pub data Leads (fetch : Fetch) (dir main : List ℕ) (rule : Rule) (calls : List Call) (state : State) (i : ℕ) : ℕ → Type 0 where
  stays : Leads fetch dir main rule calls state i i
  along : (j k at : ℕ) (cap : Cap) → Leads fetch dir main rule calls state i j → Names fetch dir main rule calls state j at cap → cap.owner ≡ k → Leads fetch dir main rule calls state i k

-- whatever a tagged word of an object loads in the image of a state, it loads by such a step
abbrev pub StepsAreNamed : Type 0
StepsAreNamed =
    (store : Store) (dir main : List ℕ) (rule : Rule) (calls : List Call) (state : State) (from : PlacedWord) (to i : ℕ) → LeadsTo store dir main rule calls state
    → Contains (words_of (state_image state)) from → loads from.word to ≡ true → HoldsGranule state i from.granule → (j : ℕ) × IsStep (fetch_from store) dir main rule calls state i j from.granule to

-- so what is reached from a granule of one object lies in an object to which such capabilities lead from there
abbrev pub ReachIsAlong : Type 0
ReachIsAlong =
    (store : Store) (dir main : List ℕ) (rule : Rule) (calls : List Call) (state : State) (start to i : ℕ) → LeadsTo store dir main rule calls state
    → HoldsGranule state i start → Reached (words_of (state_image state)) start to → (j : ℕ) × HoldsGranule state j to × Leads (fetch_from store) dir main rule calls state i j
