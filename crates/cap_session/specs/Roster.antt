-- The objects of a session in load order, each with all that belongs to it: what is stated of loading them.
use Rattle.std.specs.Prelude.{◌≡◌, ℕ, ◌≤◌, Bool, true, List, [], ◌++◌, length, map, zip, take, drop, All, Option, Some, None, Result, Ok, Err, slice_get}
use Rattle.std.specs.List.{AllZip}
use Rattle.cap_own.specs.Interval.{Interval, Cover}
use Rattle.cap_own.specs.Cap.{Mapping}
use Rattle.cap_elf.specs.DynView.{DynRecords, DynValue}
use Rattle.cap_map.specs.Placing.{object_memory}
use Rattle.cap_mem.specs.Tagged.{TaggedMemory}
use Rattle.cap_mem.specs.Ascending.{Ascend}
use Rattle.cap_reloc.specs.Binding.{AreMappings}
use Rattle.cap_scope.specs.Candidates.{hash_table}
use Rattle.cap_scope.specs.Chosen.{no_records}
use Rattle.cap_session.specs.declared.refusal.OpenRefusal.{OpenRefusal}
use Rattle.cap_session.specs.Loading.{Called, Loaded, records_of, answer_among}
use Rattle.cap_session.specs.Refused.{IsRefusedBy}
use Rattle.cap_session.specs.Mappings.{IsName, IsMappingOf, IsMemoryOf, spans_of}

-- the objects; the words under which they were first sought; for the first of them, those that answer to their needed
-- names; before each mapping its pad; the mappings; the memories; the names of their symbols; the next free address
pub record RosterValue : Type 0 where
  pub dir : List ℕ
  pub objects : List DynValue
  pub names : List (List ℕ × Bool)
  pub deps : List (List ℕ)
  pub pads : List Interval
  pub roots : List Mapping
  pub memories : List TaggedMemory
  pub symbols : List (List (List ℕ × Bool))
  pub next : ℕ

abbrev pub records_in : RosterValue → List DynRecords
records_in r = map (λ o. o.records) r.objects

-- without objects
abbrev pub empty_roster : List ℕ → RosterValue
empty_roster dir = record { dir = dir; objects = []; names = []; deps = []; pads = []; roots = []; memories = []; symbols = []; next = 0x40000000 }

abbrev pub called_in : RosterValue → List Called
called_in r = zip (map (λ n. n.0) r.names) (records_in r)

-- an object with nothing in it
abbrev pub no_called : Called
no_called = ([], no_records)

-- the first object that answers to a name
abbrev pub answerer_in : RosterValue → List ℕ → Option ℕ
answerer_in r name = answer_among (called_in r) name

-- for the first objects, as many as there are lists: each needed name is answered, by the object that its list has
abbrev pub DepsAnswer : RosterValue → Type 0
DepsAnswer r = map (λ o. map (answerer_in r) o.needed) (take (length r.deps) (records_in r)) ≡ map (map Some) r.deps

-- what holds of every roster
pub record IsRoster (r : RosterValue) : Type 0 where
  pub few : length r.objects ≤ 256
  pub name_count : length r.names ≡ length r.objects
  pub dep_count : length r.deps ≤ length r.objects
  pub pad_count : length r.pads ≡ length r.objects
  pub names_are : All (λ n. IsName n.0) r.names
  pub deps_answer : DepsAnswer r
  pub mappings : AreMappings (records_in r) 0 r.roots
  pub mappings_are : AllZip IsMappingOf (records_in r) r.roots
  pub memories_are : AllZip IsMemoryOf r.roots r.memories
  pub covered : Cover 0x40000000 (spans_of r.pads r.roots) r.next
  pub room : r.next ≤ 0x44000000
  pub ascending : Ascend 0x40000000 r.memories 0x44000000
  pub symbols_are : r.symbols ≡ map (λ o. (hash_table o).names) (records_in r)

-- each object has its list
abbrev pub IsClosed : RosterValue → Type 0
IsClosed r = length r.deps ≡ length r.objects

-- the first objects alone
abbrev pub cut_to : ℕ → RosterValue → ℕ → RosterValue
cut_to len r next = record {
  dir = r.dir;
  objects = take len r.objects;
  names = take len r.names;
  deps = take len r.deps;
  pads = take len r.pads;
  roots = take len r.roots;
  memories = take len r.memories;
  symbols = take len r.symbols;
  next = next;
}

-- where the pad of an object begins, or the next free address where there is no such object
abbrev pub pad_start : ℕ → RosterValue → ℕ
pad_start i r = elim (slice_get r.pads i) [ None ↦ r.next | Some pad ↦ pad.base ]

-- the other roster has more objects behind these
pub record Extends (old new : RosterValue) : Type 0 where
  pub dir : new.dir ≡ old.dir
  pub count : length old.objects ≤ length new.objects
  pub first : cut_to (length old.objects) new old.next ≡ old

-- the roster has the objects that a definition speaks of
pub record Lists (r : RosterValue) (objects : List Loaded) : Type 0 where
  pub records_are : records_in r ≡ map records_of objects
  pub names_are : r.names ≡ map (λ o. (o.name, true)) objects
  pub bases_are : map (λ m. m.base) r.roots ≡ map (λ o. o.base) objects

-- the memory of an object before it is relocated
abbrev pub placed_memory : Loaded → TaggedMemory
placed_memory o = object_memory o.source.bytes (records_of o) o.base

-- the roster has these objects, and those from a place on are not relocated
pub record Holds (from : ℕ) (old new : RosterValue) (objects : List Loaded) : Type 0 where
  pub lists : Lists new objects
  pub memories_are : new.memories ≡ old.memories ++ map placed_memory (drop from objects)

-- how loading ends, where these are the objects that it leads to
abbrev pub Loads : {T : Type 0} → Result (List Loaded) OpenRefusal → RosterValue → RosterValue → Result T OpenRefusal → Type 0
Loads wanted old new (Ok _) = (objects : List Loaded) × (wanted ≡ Ok objects) × Holds (length old.objects) old new objects
Loads wanted old new (Err refusal) = IsRefusedBy wanted refusal refusal.cause
