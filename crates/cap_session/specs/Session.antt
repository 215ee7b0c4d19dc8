-- A session as contracts see it, what holds of each, and the state that it stands for.
use Rattle.std.specs.Prelude.{◌≡◌, ℕ, ◌+◌, ◌<◌, ◌≤◌, ◌==◌, Bool, true, List, [], ◌∷◌, ◌++◌, length, map, All, slice_index_or, take, if◌then◌else◌}
use Rattle.cap_own.specs.Interval.{Interval}
use Rattle.cap_own.specs.Cap.{Mapping}
use Rattle.cap_elf.specs.DynView.{DynRecords, DynValue}
use Rattle.cap_elf.specs.IsRead.{IsRead, IsShort}
use Rattle.cap_mem.specs.Tagged.{TaggedMemory}
use Rattle.cap_scope.specs.declared.choice.Rule.{Rule}
use Rattle.cap_session.specs.Binding.{HasOwned}
use Rattle.cap_session.specs.Loading.{records_of, dependencies}
use Rattle.cap_session.specs.Roster.{RosterValue, IsRoster, IsClosed}
use Rattle.cap_session.specs.Scope.{Opening}
use Rattle.cap_session.specs.State.{State, memories_of}

-- what contracts see of a session. Before each mapping stands its pad
pub record SessionValue : Type 0 where
  pub dir : List ℕ
  pub rule : Rule
  pub objects : List DynValue
  pub names : List (List ℕ × Bool)
  pub deps : List (List ℕ)
  pub openings : List Opening
  pub start_count : ℕ
  pub starts : List ℕ
  pub pads : List Interval
  pub roots : List Mapping
  pub memories : List TaggedMemory
  pub symbols : List (List (List ℕ × Bool))
  pub next : ℕ

-- the objects, without the numbers of their files
abbrev pub all_records : SessionValue → List DynRecords
all_records s = map (λ o. o.records) s.objects

-- the objects of a session, with all that belongs to each
abbrev pub roster_in : SessionValue → RosterValue
roster_in s = record {
  dir = s.dir;
  objects = s.objects;
  names = s.names;
  deps = s.deps;
  pads = s.pads;
  roots = s.roots;
  memories = s.memories;
  symbols = s.symbols;
  next = s.next;
}

-- each tagged word has an owner of the session, and a note that is one of the owner's symbols
pub record HasOwners (symbols : List (List (List ℕ × Bool))) (m : TaggedMemory) : Type 0 where
  pub owners : All (λ w. w.cap.owner < length symbols) m.words
  pub notes : All (λ w. w.note < length (slice_index_or symbols w.cap.owner [])) m.words

-- the numbers ascend, from one on and up to a limit
abbrev pub AscendFrom : ℕ → List ℕ → ℕ → Type 0
AscendFrom from [] limit = from ≤ limit
AscendFrom from (n ∷ ns) limit = (from ≤ n) × AscendFrom (n + 1) ns limit

-- what holds of every session, whatever the store tells: there is an object, and all that holds of a roster; each
-- object has its dependencies, which are objects; the trees of the openings are objects; the objects' records are those
-- of files that were read, and there is a list of names for each, as long as that of its symbols; each tagged word was
-- narrowed from the mapping of its owner, an object, and its note is one of the owner's symbols; the starts begin with 0
-- and ascend
pub record IsSession (s : SessionValue) : Type 0 where
  pub some : 0 < length s.objects
  pub roster : IsRoster (roster_in s)
  pub closed : IsClosed (roster_in s)
  pub deps_are : All (λ of. All (λ i. i < length s.objects) of) s.deps
  pub trees_are : All (λ o. All (λ i. i < length s.objects) o.tree) s.openings
  pub read : All IsRead (all_records s)
  pub symbol_counts : map (λ of. length of) s.symbols ≡ map (λ o. length o.symbols) (all_records s)
  pub symbol_names : All (λ of. All (λ n. IsShort n.0) of) s.symbols
  pub owned : All (HasOwned (roster_in s)) s.memories
  pub owners : All (HasOwners s.symbols) s.memories
  pub starts_are : (rest : List ℕ) × (s.starts ≡ 0 ∷ rest) × AscendFrom 1 rest (length s.objects)
  pub start_some : 0 < s.start_count
  pub start_few : s.start_count ≤ length s.objects

-- the session holds what the state says: its objects, each with its pairs, and its memories byte by byte and word by
-- word
pub record StandsFor (s : SessionValue) (state : State) : Type 0 where
  pub objects_are : all_records s ≡ map records_of state.objects
  pub names_are : s.names ≡ map (λ o. (o.name, true)) state.objects
  pub bases_are : map (λ r. r.base) s.roots ≡ map (λ o. o.base) state.objects
  pub deps_are : s.deps ≡ dependencies state.objects
  pub pair_count : length state.pairs ≡ length state.objects
  pub openings_are : s.openings ≡ state.openings
  pub start_count_is : s.start_count ≡ state.start_count
  pub starts_are : s.starts ≡ state.starts
  pub memories_are : s.memories ≡ memories_of state

-- the session has so many objects more, and those that it had stay as they were
pub record Grows (old new : SessionValue) (more : ℕ) : Type 0 where
  pub dir : new.dir ≡ old.dir
  pub rule : new.rule ≡ old.rule
  pub count : length new.objects ≡ length old.objects + more
  pub objects_stay : take (length old.objects) new.objects ≡ old.objects
  pub names_stay : take (length old.objects) new.names ≡ old.names
  pub deps_stay : take (length old.objects) new.deps ≡ old.deps
  pub pads_stay : take (length old.objects) new.pads ≡ old.pads
  pub roots_stay : take (length old.objects) new.roots ≡ old.roots
  pub memories_stay : take (length old.objects) new.memories ≡ old.memories
  pub symbols_stay : take (length old.objects) new.symbols ≡ old.symbols
  pub opening : Opening
  pub openings_grow : new.openings ≡ old.openings ++ opening ∷ []
  pub start_stays : new.start_count ≡ old.start_count
  pub starts_grow : new.starts ≡ old.starts ++ (if more == 0 then [] else length old.objects ∷ [])
