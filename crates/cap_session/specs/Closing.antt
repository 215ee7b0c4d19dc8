-- Loading all that is needed, step by step.
use Rattle.std.specs.Prelude.{◌≡◌, ℕ, Bool, List, [], ◌++◌, length, map, All, Option, IfSome, Result, Ok, Err, is_none}
use Rattle.cap_base.specs.Outside.{Store}
use Rattle.cap_mem.specs.Tagged.{TaggedMemory}
use Rattle.cap_scope.specs.Chosen.{object_at}
use Rattle.cap_session.specs.declared.refusal.OpenRefusal.{OpenRefusal}
use Rattle.cap_session.specs.Adding.{IsAdded}
use Rattle.cap_session.specs.Loading.{Loaded, at_path, closed, fetch_from, next_object, path_of, refusal_as, with_needed}
use Rattle.cap_session.specs.Refused.{IsRefusedBy}
use Rattle.cap_session.specs.Roster.{RosterValue, Lists, answerer_in, placed_memory, records_in}

-- the path of the next object
abbrev pub next_path : RosterValue → List ℕ → List ℕ
next_path r name = path_of r.dir (length r.objects) name

-- the next object of this name, or the refusal at its path
abbrev pub next_in : Store → RosterValue → List ℕ → Result Loaded OpenRefusal
next_in store r name =
    refusal_as (at_path (next_path r name)) (next_object (fetch_from store) (next_path r name) (length r.objects) r.next name)

-- how it ends that the object of a name is loaded
abbrev pub AddsOne : {T : Type 0} → Option Store → List ℕ → RosterValue → RosterValue → Result T OpenRefusal → Type 0
AddsOne told name old new (Ok _) = IsAdded told (next_path old name) name old new
AddsOne told name old new (Err refusal) = IfSome told (λ store. IsRefusedBy (next_in store old name) refusal refusal.cause) × (new ≡ old)

-- the second list begins with the first
abbrev pub Begins : {X : Type 0} → List X → List X → Type 0
Begins {X} xs ys = (more : List X) × (ys ≡ xs ++ more)

-- the objects of the first roster stand first in the second, and those behind them are not relocated
pub record Behind (old new : RosterValue) : Type 0 where
  pub dir : new.dir ≡ old.dir
  pub objects : Begins old.objects new.objects
  pub names : Begins old.names new.names
  pub deps : Begins old.deps new.deps
  pub pads : Begins old.pads new.pads
  pub roots : Begins old.roots new.roots
  pub symbols : Begins old.symbols new.symbols
  pub more : List TaggedMemory
  pub memories : new.memories ≡ old.memories ++ more
  pub untagged : All (λ m. m.words ≡ []) more

-- from these objects closing leads to others, which are those of a roster, behind those of another
pub record Went (told : Option Store) (old new : RosterValue) (objects : List Loaded) : Type 0 where
  pub more : List Loaded
  pub lists : Lists new (objects ++ more)
  pub memories : new.memories ≡ old.memories ++ map placed_memory more
  pub same : IfSome told (λ store. closed (fetch_from store) old.dir objects ≡ closed (fetch_from store) old.dir (objects ++ more))

-- the same for all objects that the first roster may stand for
abbrev pub Goes : Option Store → RosterValue → RosterValue → Type 0
Goes told old new = (objects : List Loaded) → Lists old objects → Went told old new objects

-- closing is refused so
abbrev pub Stops : Option Store → RosterValue → OpenRefusal → Type 0
Stops told old refusal =
    (objects : List Loaded) → Lists old objects → IfSome told (λ store. IsRefusedBy (closed (fetch_from store) old.dir objects) refusal refusal.cause)

-- how a step of closing ends
abbrev pub Closes : {T : Type 0} → Option Store → RosterValue → RosterValue → Result T OpenRefusal → Type 0
Closes told old new (Ok _) = Goes told old new
Closes told old new (Err refusal) = Stops told old refusal

-- the names that an object needs
abbrev pub needed_by : RosterValue → ℕ → List (List ℕ)
needed_by r i = (object_at (records_in r) i).needed

-- no object answers to the name
abbrev pub is_unanswered : RosterValue → List ℕ → Bool
is_unanswered r name = is_none (answerer_in r name)

-- all that is needed was loaded behind these objects
pub record LoadedAll (told : Option Store) (name : List ℕ) (old new : RosterValue) (objects : List Loaded) : Type 0 where
  pub more : List Loaded
  pub lists : Lists new (objects ++ more)
  pub memories : new.memories ≡ old.memories ++ map placed_memory more
  pub same : IfSome told (λ store. with_needed (fetch_from store) old.dir objects name ≡ Ok (objects ++ more))

-- how it ends that an object and all that is needed is loaded
abbrev pub LoadsAll : {T : Type 0} → Option Store → List ℕ → RosterValue → RosterValue → Result T OpenRefusal → Type 0
LoadsAll told name old new (Ok _) = (objects : List Loaded) → Lists old objects → LoadedAll told name old new objects
LoadsAll told name old new (Err refusal) =
    (objects : List Loaded) → Lists old objects → IfSome told (λ store. IsRefusedBy (with_needed (fetch_from store) old.dir objects name) refusal refusal.cause)
