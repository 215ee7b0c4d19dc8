-- What the slots of loaded objects are to hold, one object after another, and what relocating leaves of a roster.
use Rattle.std.specs.Prelude.{◌≡◌, ◌≢◌, ◌⊎◌, ℕ, List, [], ◌∷◌, ◌++◌, length, map, take, drop, codes, slice_index_or, slice_set, Option, Some, None, Result, Ok, Err}
use Rattle.cap_base.specs.Steps.{◌>>=◌, gather}
use Rattle.cap_base.specs.Lists.{numbers_between}
use Rattle.cap_elf.specs.DynView.{DynRecords}
use Rattle.cap_mem.specs.Tagged.{TaggedMemory, fresh_memory}
use Rattle.cap_scope.specs.declared.choice.Hit.{Hit}
use Rattle.cap_scope.specs.declared.choice.Rule.{Rule}
use Rattle.cap_scope.specs.Chosen.{object_at}
use Rattle.cap_reloc.specs.declared.refusal.RelocRefusal.{RelocRefusal}
use Rattle.cap_reloc.specs.declared.refusal.RelocRefusal.TheVariants as relocs
use Rattle.cap_reloc.specs.Wanted.{Pair, Setting, name_at, wanted_pairs}
use Rattle.cap_reloc.specs.Stored.{with_pairs}
use Rattle.cap_reloc.specs.Binding.{AreNarrowed, AreNoted, IsRefusedBy as IsRelocRefusedBy}
use Rattle.cap_session.specs.declared.refusal.OpenCause.{OpenCause}
use Rattle.cap_session.specs.declared.refusal.OpenCause.TheVariants.{Malformed, Unsupported, Unresolved, Inexact, NoMemory}
use Rattle.cap_session.specs.declared.refusal.OpenRefusal.{OpenRefusal}
use Rattle.cap_session.specs.Loading.{refusal_as, Loaded, records_of, path_of, at_path}
use Rattle.cap_session.specs.Refused.{IsRefusedBy}
use Rattle.cap_session.specs.Roster.{RosterValue, records_in}
use Rattle.cap_session.specs.Scope.{Opening, scope_of}

-- what relocating sees of the objects, in load order: their records, where they begin, and the words under which they
-- were first sought
pub record Objects : Type 0 where
  pub records : List DynRecords
  pub bases : List ℕ
  pub names : List (List ℕ)

abbrev pub objects_of : List Loaded → Objects
objects_of objects = record {
  records = map records_of objects;
  bases = map (λ o. o.base) objects;
  names = map (λ o. o.name) objects;
}

abbrev pub objects_in : RosterValue → Objects
objects_in r = record {
  records = records_in r;
  bases = map (λ m. m.base) r.roots;
  names = map (λ n. n.0) r.names;
}

-- an object among the others, with a scope
abbrev pub setting_with : Rule → Objects → List ℕ → ℕ → Setting
setting_with rule objects scope i =
    record { objects = objects.records; bases = objects.bases; index = i; scope = scope; rule = rule }

-- an object among the others, as it is relocated
abbrev pub setting_of : Rule → Objects → ℕ → List Opening → ℕ → Setting
setting_of rule objects start_count openings i =
    setting_with rule objects (scope_of (object_at objects.records i).symbolic start_count openings i) i

abbrev pub hit_name : List DynRecords → Option Hit → List ℕ
hit_name objects None = codes "-"
hit_name objects (Some hit) = name_at (object_at objects hit.object) hit.symbol

-- the cause that a refused relocation of an object gives
abbrev pub reloc_cause : List DynRecords → ℕ → RelocRefusal → OpenCause
reloc_cause objects i (relocs.Malformed check at) = Malformed check at
reloc_cause objects i (relocs.Unsupported check at) = Unsupported check at
reloc_cause objects i (relocs.Unresolved symbol) = Unresolved (name_at (object_at objects i) symbol)
reloc_cause objects i (relocs.Inexact hit base len) = Inexact (hit_name objects hit) base len
reloc_cause objects i relocs.NoMemory = NoMemory

-- the path of one of the objects
abbrev pub path_in : List ℕ → Objects → ℕ → List ℕ
path_in dir objects i = path_of dir i (slice_index_or objects.names i [])

-- the same refusal, with the path of the object
abbrev pub reloc_refusal : List ℕ → Objects → ℕ → RelocRefusal → OpenRefusal
reloc_refusal dir objects i refusal = at_path (path_in dir objects i) (reloc_cause objects.records i refusal)

-- the refusal that is told, unless memory ran out before it was made or as the object was relocated
abbrev pub Tells : OpenRefusal → RelocRefusal → OpenRefusal → Type 0
Tells wanted refusal result =
    ((result.path ≡ []) × (result.cause ≡ NoMemory)) ⊎ ((result ≡ wanted) × (refusal ≢ relocs.NoMemory))

-- the pairs of one object, or the refusal at its path
abbrev pub pairs_for : Rule → List ℕ → Objects → ℕ → List Opening → ℕ → Result (List Pair) OpenRefusal
pairs_for rule dir objects start_count openings i =
    refusal_as (reloc_refusal dir objects i) (wanted_pairs (setting_of rule objects start_count openings i))

-- the pairs of each object from one on, or the first refusal in load order
abbrev pub pairs_from : Rule → List ℕ → Objects → ℕ → List Opening → ℕ → Result (List (List Pair)) OpenRefusal
pairs_from rule dir objects start_count openings from =
    gather (pairs_for rule dir objects start_count openings) (numbers_between from (length objects.records))

-- the memories, each with the pairs of its object; those for which there are none stay
abbrev pub relocated : List (List Pair) → List TaggedMemory → List TaggedMemory
relocated [] memories = memories
relocated (pairs ∷ rest) [] = []
relocated (pairs ∷ rest) (memory ∷ memories) = with_pairs pairs memory ∷ relocated rest memories

abbrev pub no_memory : TaggedMemory
no_memory = fresh_memory 0 0

abbrev pub memory_at : RosterValue → ℕ → TaggedMemory
memory_at r i = slice_index_or r.memories i no_memory

abbrev pub with_memory : RosterValue → ℕ → TaggedMemory → RosterValue
with_memory r i memory = record r { memories = slice_set r.memories i memory }

-- how relocating one object with a scope ends: its memory has the pairs, or there is a refusal and all stays
abbrev pub Rebinds : {T : Type 0} → Setting → RosterValue → RosterValue → Result T RelocRefusal → Type 0
Rebinds setting old new (Ok _) =
    (pairs : List Pair) × (wanted_pairs setting ≡ Ok pairs) × (new ≡ with_memory old setting.index (with_pairs pairs (memory_at old setting.index)))
Rebinds setting old new (Err refusal) = IsRelocRefusedBy (wanted_pairs setting) refusal × (new ≡ old)

-- the same, with the scope of the object and its path
abbrev pub Relocates : {T : Type 0} → Result (List Pair) OpenRefusal → ℕ → RosterValue → RosterValue → Result T OpenRefusal → Type 0
Relocates wanted i old new (Ok _) =
    (pairs : List Pair) × (wanted ≡ Ok pairs) × (new ≡ with_memory old i (with_pairs pairs (memory_at old i)))
Relocates wanted i old new (Err refusal) = IsRefusedBy wanted refusal refusal.cause × (new ≡ old)

-- how relocating all objects from one on ends: their memories have the pairs, or there is a refusal
abbrev pub RelocatesFrom : {T : Type 0} → Result (List (List Pair)) OpenRefusal → ℕ → RosterValue → RosterValue → Result T OpenRefusal → Type 0
RelocatesFrom wanted from old new (Ok _) =
    (pairs : List (List Pair)) × (wanted ≡ Ok pairs) × (new.memories ≡ take from old.memories ++ relocated pairs (drop from old.memories))
RelocatesFrom wanted from old new (Err refusal) = IsRefusedBy wanted refusal refusal.cause

-- nothing but the memories from one on differs
pub record StaysBelow (from : ℕ) (old new : RosterValue) : Type 0 where
  pub rest : new ≡ record old { memories = new.memories }
  pub first : take from new.memories ≡ take from old.memories

-- each tagged word was narrowed from the mapping of its owner, and its note is one of the owner's symbols
pub record HasOwned (r : RosterValue) (memory : TaggedMemory) : Type 0 where
  pub narrowed : AreNarrowed r.roots memory
  pub noted : AreNoted (records_in r) memory
