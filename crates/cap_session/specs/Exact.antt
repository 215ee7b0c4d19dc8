-- What holds of every state, and what the definitions of a state say of exact bounds.
use Rattle.std.specs.Prelude.{◌≡◌, ◌⊎◌, ℕ, ◌+◌, ◌%◌, ◌<◌, ◌≤◌, true, List, [], ◌∷◌, ◌++◌, length, map, zip, All, Contains, Option, Some, None, Result, Ok, Err, slice_index}
use Rattle.std.specs.List.{AllZip}
use Rattle.cap_base.specs.Outside.{Store}
use Rattle.cap_elf.specs.IsRead.{IsRead}
use Rattle.cap_fits.specs.Fits.{Fits, Placed, loaded_intervals, DataLieApart}
use Rattle.cap_scope.specs.declared.choice.Hit.{Hit}
use Rattle.cap_scope.specs.declared.choice.Rule.{Rule}
use Rattle.cap_scope.specs.Chosen.{object_at}
use Rattle.cap_reloc.specs.declared.refusal.RelocRefusal.TheVariants as relocs
use Rattle.cap_reloc.specs.Planned.{SlotsAreApart, interval_of}
use Rattle.cap_reloc.specs.Wanted.{Content, Number, Untagged, Tagged, Pair, wanted_pairs}
use Rattle.cap_session.specs.declared.refusal.Mode.{Mode}
use Rattle.cap_session.specs.declared.refusal.OpenCause.{OpenCause}
use Rattle.cap_session.specs.declared.refusal.OpenCause.TheVariants.{NoFile, Malformed, Unsupported, Unresolved, Inexact, Full, Limit, ReadFault, NoMemory}
use Rattle.cap_session.specs.declared.refusal.OpenRefusal.{OpenRefusal}
use Rattle.cap_session.specs.Binding.{objects_of, setting_of, reloc_refusal}
use Rattle.cap_session.specs.Calls.{Call, after_calls, mode_of, outcome_of}
use Rattle.cap_session.specs.Loading.{Fetch, Loaded, Source, closed, fetch_from, first_unanswered, records_of, with_needed, with_named}
use Rattle.cap_session.specs.Scope.{Opening}
use Rattle.cap_session.specs.Session.{SessionValue, all_records}
use Rattle.cap_session.specs.State.{State, started, opened, opening_of}

-- the objects lie one behind another up to the end of all addresses, each at a multiple of its alignment
abbrev pub LieBehind : ℕ → List Loaded → Type 0
LieBehind from [] = from ≤ 0x44000000
LieBehind from (o ∷ objects) = (from ≤ o.base) × (o.base % (records_of o).align ≡ 0) × LieBehind (o.base + (records_of o).span) objects

-- the cause is that of bounds that are not exact
abbrev pub IsInexactCause : OpenCause → Type 0
IsInexactCause NoFile = ⊥
IsInexactCause (Malformed check at) = ⊥
IsInexactCause (Unsupported check at) = ⊥
IsInexactCause (Unresolved name) = ⊥
IsInexactCause (Inexact name base len) = Unit {0}
IsInexactCause (Full asked left) = ⊥
IsInexactCause (Limit check) = ⊥
IsInexactCause ReadFault = ⊥
IsInexactCause NoMemory = ⊥

abbrev pub IsInexact : OpenRefusal → Type 0
IsInexact refusal = IsInexactCause refusal.cause

-- the files that paths give have the records of files that were read, and bounds are no cause why a path gives none
pub record GivesRead (fetch : Fetch) : Type 0 where
  pub read : (path : List ℕ) (source : Source) → fetch path ≡ Ok source → IsRead source.records
  pub refused : (path : List ℕ) (cause : OpenCause) → fetch path ≡ Err cause → IsInexactCause cause → ⊥

abbrev pub StoresGiveRead : Type 0
StoresGiveRead = (store : Store) → GivesRead (fetch_from store)

-- the objects, and where each begins
abbrev pub placed_objects : List Loaded → List Placed
placed_objects objects = map (λ o. (records_of o, o.base)) objects

abbrev pub placed_in : SessionValue → List Placed
placed_in s = zip (all_records s) (map (λ r. r.base) s.roots)

-- the bounds of a capability that isn't sealed are an interval of data of the object that owns it
abbrev pub IsBoundOf : List Loaded → Content → Type 0
IsBoundOf objects (Number n) = Unit {0}
IsBoundOf objects (Untagged n) = Unit {0}
IsBoundOf objects (Tagged c note) =
    (c.sealed ≡ true)
    ⊎ ((c.owner < length objects) × Contains (loaded_intervals (object_at (map records_of objects) c.owner) (slice_index (map (λ o. o.base) objects) c.owner)) (c.base, c.len))

-- the slot lies in the object
abbrev pub LiesIn : Loaded → Pair → Type 0
LiesIn o p =
    let slot = interval_of p in (o.base ≤ slot.0) × (slot.0 + slot.1 ≤ o.base + (records_of o).span)

-- the slots of an object share no byte, and lie in it
pub record AreSlotsOf (o : Loaded) (pairs : List Pair) : Type 0 where
  pub apart : SlotsAreApart pairs
  pub within : All (LiesIn o) pairs

-- what holds of every state that a start and calls lead to. So no two pairs of a state share a byte
pub record IsReached (state : State) : Type 0 where
  pub some : 0 < length state.objects
  pub few : length state.objects ≤ 256
  pub read : All IsRead (map records_of state.objects)
  pub behind : LieBehind 0x40000000 state.objects
  pub start_few : state.start_count ≤ length state.objects
  pub trees : All (λ o. All (λ i. i < length state.objects) o.tree) state.openings
  pub slots : AllZip AreSlotsOf state.objects state.pairs
  pub bounds : All (λ pairs. All (λ (p : Pair). IsBoundOf state.objects p.content) pairs) state.pairs

-- each state that a start and calls lead to
pub record StatesAreReached : Type 0 where
  pub start : (fetch : Fetch) (dir main : List ℕ) (rule : Rule) (state : State) → GivesRead fetch → started fetch dir main rule ≡ Ok state → IsReached state
  pub call : (fetch : Fetch) (dir : List ℕ) (rule : Rule) (state : State) (name : List ℕ) (mode : Mode) (next : State) → GivesRead fetch → IsReached state → opened fetch dir rule state name mode ≡ Ok next → IsReached next
  pub run : (store : Store) (dir main : List ℕ) (rule : Rule) (calls : List Call) (state : State) → (outcome_of (fetch_from store) dir main rule calls).«end» ≡ Ok state → IsReached state

-- where loading what is needed ends, each needed name is answered
abbrev pub NamesAreAnswered : Type 0
NamesAreAnswered = (fetch : Fetch) (dir : List ℕ) (objects last : List Loaded) → closed fetch dir objects ≡ Ok last → first_unanswered last ≡ None

-- the data of the objects of a state lie apart
abbrev pub StatesLieApart : Type 0
StatesLieApart = (state : State) → IsReached state → DataLieApart (placed_objects state.objects)

-- the object in which the refused definition stands; of an entry, that which is relocated
abbrev pub blamed : ℕ → Option Hit → ℕ
blamed index None = index
blamed index (Some hit) = hit.object

-- the refusal is that of one of these objects as it is relocated; and the object in which the definition stands, or which
-- has the entry, doesn't fit exact bounds
pub record IsUnfit (rule : Rule) (dir : List ℕ) (objects : List Loaded) (start_count : ℕ) (openings : List Opening) (refusal : OpenRefusal) : Type 0 where
  pub index : ℕ
  pub hit : Option Hit
  pub base : ℕ
  pub len : ℕ
  pub relocated : index < length objects
  pub refused : wanted_pairs (setting_of rule (objects_of objects) start_count openings index) ≡ Err (relocs.Inexact hit base len)
  pub is_refusal : refusal ≡ reloc_refusal dir (objects_of objects) index (relocs.Inexact hit base len)
  pub inside : blamed index hit < length objects
  pub unfit : Fits (object_at (map records_of objects) (blamed index hit)) → ⊥

-- the same, of the objects of a start or a call
pub record IsUnfitAmong (objects : Result (List Loaded) OpenRefusal) (unfit : List Loaded → Type 0) : Type 0 where
  pub loaded : List Loaded
  pub objects_are : objects ≡ Ok loaded
  pub is_unfit : unfit loaded

-- where a start is refused for bounds, it is by an object that doesn't fit
abbrev pub IsUnfitStart : Fetch → List ℕ → List ℕ → Rule → OpenRefusal → Type 0
IsUnfitStart fetch dir main rule refusal =
    IsInexact refusal → IsUnfitAmong (with_needed fetch dir [] main) (λ objects. IsUnfit rule dir objects (length objects) [] refusal)

-- the same of a call
abbrev pub IsUnfitCall : Fetch → List ℕ → Rule → State → List ℕ → Mode → OpenRefusal → Type 0
IsUnfitCall fetch dir rule state name mode refusal =
    IsInexact refusal → IsUnfitAmong (with_named fetch dir state.objects name) (λ objects. IsUnfit rule dir objects state.start_count (state.openings ++ opening_of objects name mode ∷ []) refusal)

-- a start and a call are refused for bounds only by an object that doesn't fit
pub record InexactIsUnfit : Type 0 where
  pub start : (fetch : Fetch) (dir main : List ℕ) (rule : Rule) (refusal : OpenRefusal) → GivesRead fetch → started fetch dir main rule ≡ Err refusal → IsUnfitStart fetch dir main rule refusal
  pub call : (fetch : Fetch) (dir : List ℕ) (rule : Rule) (state : State) (name : List ℕ) (mode : Mode) (refusal : OpenRefusal) → GivesRead fetch → IsReached state → opened fetch dir rule state name mode ≡ Err refusal → IsUnfitCall fetch dir rule state name mode refusal

-- the file of a loaded object is what a path gives
abbrev pub IsFetched : Fetch → Loaded → Type 0
IsFetched fetch o = (path : List ℕ) × (fetch path ≡ Ok o.source)

-- a call of a run, and the state in which it is made: that to which the start and the calls before it lead
pub record IsCallOf (fetch : Fetch) (dir main : List ℕ) (rule : Rule) (calls : List Call) (state : State) (call : Call) : Type 0 where
  pub first : State
  pub begun : started fetch dir main rule ≡ Ok first
  pub before : List Call
  pub later : List Call
  pub calls_are : calls ≡ before ++ call ∷ later
  pub state_is : state ≡ after_calls fetch dir rule first before

-- the objects that the start of a run loads, or one of its calls, and the openings by which they are relocated
pub data IsLoadedBy (fetch : Fetch) (dir main : List ℕ) (rule : Rule) (calls : List Call) (objects : List Loaded) (start_count : ℕ) (openings : List Opening) : Type 0 where
  by_start : with_needed fetch dir [] main ≡ Ok objects → start_count ≡ length objects → openings ≡ [] → IsLoadedBy fetch dir main rule calls objects start_count openings
  by_call : (state : State) (call : Call) → IsCallOf fetch dir main rule calls state call → with_named fetch dir state.objects call.name ≡ Ok objects → start_count ≡ state.start_count → openings ≡ state.openings ++ opening_of objects call.name (mode_of call.form) ∷ [] → IsLoadedBy fetch dir main rule calls objects start_count openings

-- a refusal for bounds among the objects that a run loads
pub record IsUnfitIn (fetch : Fetch) (dir main : List ℕ) (rule : Rule) (calls : List Call) (refusal : OpenRefusal) : Type 0 where
  pub objects : List Loaded
  pub start_count : ℕ
  pub openings : List Opening
  pub loaded_by : IsLoadedBy fetch dir main rule calls objects start_count openings
  pub fetched : All (IsFetched fetch) objects
  pub is_unfit : IsUnfit rule dir objects start_count openings refusal

-- the files of the objects that a run of calls leads to are the store's; and it is refused for bounds, and a call is passed
-- over for them, only by an object that doesn't fit
pub record RunsAreSound : Type 0 where
  pub fetched : (store : Store) (dir main : List ℕ) (rule : Rule) (calls : List Call) (state : State) → (outcome_of (fetch_from store) dir main rule calls).«end» ≡ Ok state → All (IsFetched (fetch_from store)) state.objects
  pub ended : (store : Store) (dir main : List ℕ) (rule : Rule) (calls : List Call) (refusal : OpenRefusal) → (outcome_of (fetch_from store) dir main rule calls).«end» ≡ Err refusal → IsInexact refusal → IsUnfitIn (fetch_from store) dir main rule calls refusal
  pub noted : (store : Store) (dir main : List ℕ) (rule : Rule) (calls : List Call) → All (λ refusal. IsInexact refusal → IsUnfitIn (fetch_from store) dir main rule calls refusal) (outcome_of (fetch_from store) dir main rule calls).notes
