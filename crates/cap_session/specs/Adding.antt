-- One object more.
use Rattle.std.specs.Prelude.{◌≡◌, ◌⊎◌, ℕ, ◌+◌, ◌-◌, ◌<◌, ◌≤◌, Bool, true, false, List, [], ◌∷◌, ◌++◌, length, Option, IfSome, Result, Ok, Err}
use Rattle.std.specs.Int.{next_multiple_of}
use Rattle.cap_base.specs.Outside.{Store}
use Rattle.cap_base.specs.declared.refusal.Refusal.{Refusal}
use Rattle.cap_base.specs.declared.refusal.Refusal.TheVariants as refusals
use Rattle.cap_own.specs.Interval.{interval}
use Rattle.cap_elf.specs.DynView.{DynRecords, DynValue}
use Rattle.cap_map.specs.Placing.{object_memory}
use Rattle.cap_scope.specs.Candidates.{hash_table}
use Rattle.cap_session.specs.declared.refusal.OpenCause.{OpenCause}
use Rattle.cap_session.specs.declared.refusal.OpenCause.TheVariants.{NoFile, Malformed, Unsupported, Unresolved, Inexact, Full, Limit, ReadFault, NoMemory}
use Rattle.cap_session.specs.declared.refusal.OpenRefusal.{OpenRefusal}
use Rattle.cap_session.specs.Causes.{IsCausedBy}
use Rattle.cap_session.specs.Loading.{Source, Loaded, fetch_from, next_object, at_path}
use Rattle.cap_session.specs.Roster.{RosterValue}

-- where the next object begins
abbrev pub next_base : RosterValue → DynRecords → ℕ
next_base r object = next_multiple_of r.next object.align

-- the object of this name and these bytes behind the others
abbrev pub with_object : RosterValue → DynValue → List ℕ → List ℕ → RosterValue
with_object r object name bytes =
    let base = next_base r object.records in
    record {
      dir = r.dir;
      objects = r.objects ++ object ∷ [];
      names = r.names ++ (name, true) ∷ [];
      deps = r.deps;
      pads = r.pads ++ interval r.next (base - r.next) ∷ [];
      roots = r.roots ++ record { base = base; len = object.records.span; owner = length r.objects } ∷ [];
      memories = r.memories ++ object_memory bytes object.records base ∷ [];
      symbols = r.symbols ++ (hash_table object.records).names ∷ [];
      next = base + object.records.span;
    }

-- there is no room for the object
pub record HasNoRoom (r : RosterValue) (object : DynRecords) (refusal : Refusal) : Type 0 where
  pub refusal_is : refusal ≡ refusals.Full object.span (0x44000000 - r.next)
  pub passes : 0x44000000 < next_base r object + object.span

-- how it ends that an object is put behind the others
abbrev pub Puts : {T : Type 0} → RosterValue → RosterValue → DynValue → List ℕ → List ℕ → Result T Refusal → Type 0
Puts old new object name bytes (Ok _) =
    (next_base old object.records + object.records.span ≤ 0x44000000) × (new ≡ with_object old object name bytes)
Puts old new object name bytes (Err refusal) =
    ((refusal ≡ refusals.NoMemory) ⊎ HasNoRoom old object.records refusal) × (new ≡ old)

-- the object that comes behind the others from a source
abbrev pub next_loaded : RosterValue → Source → List ℕ → Loaded
next_loaded r source name = record { name = name; source = source; base = next_base r source.records }

abbrev pub numbered_source : RosterValue → Source → DynValue
numbered_source r source = record { number = length r.objects; records = source.records }

-- the object of a path is behind the others
pub record IsAdded (told : Option Store) (path name : List ℕ) (old new : RosterValue) : Type 0 where
  pub source : Source
  pub found : IfSome told (λ store. fetch_from store path ≡ Ok source)
  pub few : length old.objects < 256
  pub fits : next_base old source.records + source.records.span ≤ 0x44000000
  pub new_is : new ≡ with_object old (numbered_source old source) name source.bytes

-- how it ends that the object of a path is put behind the others
abbrev pub Adds : {T : Type 0} → Option Store → List ℕ → List ℕ → RosterValue → RosterValue → Result T OpenCause → Type 0
Adds told path name old new (Ok _) = IsAdded told path name old new
Adds told path name old new (Err cause) =
    IfSome told (λ store. IsCausedBy (next_object (fetch_from store) path (length old.objects) old.next name) cause) × (new ≡ old)

abbrev pub is_no_memory : OpenCause → Bool
is_no_memory NoFile = false
is_no_memory (Malformed check at) = false
is_no_memory (Unsupported check at) = false
is_no_memory (Unresolved name) = false
is_no_memory (Inexact name base len) = false
is_no_memory (Full asked left) = false
is_no_memory (Limit check) = false
is_no_memory ReadFault = false
is_no_memory NoMemory = true

-- a refusal tells the cause and the path, unless memory runs out
abbrev pub TellsPath : List ℕ → OpenCause → OpenRefusal → Type 0
TellsPath path cause refusal =
    ((refusal.cause ≡ NoMemory) × (refusal.path ≡ [])) ⊎ ((refusal ≡ at_path path cause) × (is_no_memory cause ≡ false))
