-- What a start and calls say of exact bounds, where files that a link wrote are among those that are loaded.
use Rattle.std.specs.Prelude.{◌≡◌, ◌⊎◌, ◌+◌, ◌<◌, ℕ, true, false, List, All, AllPairs, IfSome, Contains, Some, Ok, Err, length, slice_get, slice_index_or}
use Rattle.cap_base.specs.Lists.{share_byte}
use Rattle.cap_base.specs.Outside.{Store, file_in}
use Rattle.cap_base.specs.declared.kind.Kind.{Kind}
use Rattle.cap_elf.specs.DynView.{DynRecords}
use Rattle.cap_elf.specs.Records.{null_symbol}
use Rattle.cap_fits.specs.Fits.{is_data, loaded_intervals}
use Rattle.cap_scope.specs.declared.choice.Rule.{Rule}
use Rattle.cap_reloc.specs.Wanted.{Pair, Content, Number, Untagged, Tagged}
use Rattle.cap_link.specs.Inputs.{Input}
use Rattle.cap_link.specs.Laws.{AreAliases, IsAccepted, IsLinked, target_of_name}
use Rattle.cap_link.specs.Linked.{Linked, file_of_link}
use Rattle.cap_session.specs.declared.refusal.OpenRefusal.{OpenRefusal}
use Rattle.cap_session.specs.Calls.{Call, Outcome, outcome_of}
use Rattle.cap_session.specs.Exact.{IsFetched, IsInexact, IsLoadedBy, IsUnfit, blamed}
use Rattle.cap_session.specs.Loading.{Loaded, fetch_from, records_of}
use Rattle.cap_session.specs.Scope.{Opening}
use Rattle.cap_session.specs.State.{State}

-- a run of the loader: where libraries are sought, the program, the rule by which definitions are chosen, and the calls
pub record Run : Type 0 where
  pub dir : List ℕ
  pub main : List ℕ
  pub rule : Rule
  pub calls : List Call

abbrev pub outcome_in : Store → Run → Outcome
outcome_in store run = outcome_of (fetch_from store) run.dir run.main run.rule run.calls

-- the file of a loaded object stands in the store, and no link wrote it
pub record IsForeign (store : Store) (o : Loaded) : Type 0 where
  pub path : List ℕ
  pub stands : file_in store path ≡ Some o.source.bytes
  pub foreign : IsLinked o.source.bytes → ⊥

-- a refusal for bounds speaks of a definition in, or of an entry of, an object whose file no link wrote, among the objects
-- that the run loads
pub record BlamesForeign (store : Store) (run : Run) (refusal : OpenRefusal) : Type 0 where
  pub objects : List Loaded
  pub start_count : ℕ
  pub openings : List Opening
  pub loaded_by : IsLoadedBy (fetch_from store) run.dir run.main run.rule run.calls objects start_count openings
  pub fetched : All (IsFetched (fetch_from store)) objects
  pub is_unfit : IsUnfit run.rule run.dir objects start_count openings refusal
  pub object : Loaded
  pub object_is : slice_get objects (blamed is_unfit.index is_unfit.hit) ≡ Some object
  pub foreign : IsForeign store object

-- a run is refused for bounds, and passes over a call that is, only by what no link wrote
pub record RefusesForeign (store : Store) (run : Run) : Type 0 where
  pub ended : (refusal : OpenRefusal) → (outcome_in store run).«end» ≡ Err refusal → IsInexact refusal → BlamesForeign store run refusal
  pub noted : All (λ refusal. IsInexact refusal → BlamesForeign store run refusal) (outcome_in store run).notes

-- the intervals of data of a loaded object
abbrev pub loaded_data : Loaded → List (ℕ × ℕ)
loaded_data o = loaded_intervals (records_of o) o.base

abbrev pub AreOneOrApart : List (ℕ × ℕ) → List (ℕ × ℕ) → Type 0
AreOneOrApart xs ys = All (λ x. All (λ y. (x ≡ y) ⊎ (share_byte x y ≡ false)) ys) xs

-- none of these intervals shares a byte with one of those
abbrev pub ShareNone : List (ℕ × ℕ) → List (ℕ × ℕ) → Type 0
ShareNone xs ys = All (λ x. All (λ y. share_byte x y ≡ false) ys) xs

-- two symbols of data of a linked file that have one interval, with a byte in it, stand for aliases: definitions that cut
-- one section of one input alike
abbrev pub OnlyAliasesAreOne : List ℕ → DynRecords → Type 0
OnlyAliasesAreOne bytes records =
    (inputs : List Input) (kind : Kind) (l : Linked) (i j : ℕ) → IsAccepted inputs kind l → file_of_link l ≡ bytes → i < length l.lists.plan.symbols → j < length l.lists.plan.symbols
    → (let s = slice_index_or records.symbols (i + 1) (null_symbol 0) in let t = slice_index_or records.symbols (j + 1) (null_symbol 0) in
    is_data s ≡ true → is_data t ≡ true → s.value ≡ t.value → s.size ≡ t.size → 0 < s.size → (i ≡ j) ⊎ AreAliases (target_of_name l i) (target_of_name l j))

-- of the loaded objects that a link wrote: in one, two intervals of data are one, or share no byte, and only aliases have
-- one with a byte in it; and no interval of one object shares a byte with one of another
pub record LinkedLieApart (objects : List Loaded) : Type 0 where
  pub own : All (λ o. IsLinked o.source.bytes → AreOneOrApart (loaded_data o) (loaded_data o)) objects
  pub aliases : All (λ o. OnlyAliasesAreOne o.source.bytes (records_of o)) objects
  pub others : AllPairs (λ a b. IsLinked a.source.bytes → IsLinked b.source.bytes → ShareNone (loaded_data a) (loaded_data b)) objects

-- the bounds of a capability that isn't sealed are those of data of the object in which its definition stands
abbrev pub IsBoundOfData : List Loaded → Content → Type 0
IsBoundOfData objects (Number n) = Unit {0}
IsBoundOfData objects (Untagged n) = Unit {0}
IsBoundOfData objects (Tagged c note) = c.sealed ≡ false → IfSome (slice_get objects c.owner) (λ o. Contains (loaded_data o) (c.base, c.len))

-- the state that a run leads to, if it leads to one
pub record KeepsBounds (store : Store) (run : Run) : Type 0 where
  pub refuses : RefusesForeign store run
  pub apart : (state : State) → (outcome_in store run).«end» ≡ Ok state → LinkedLieApart state.objects
  pub bounds : (state : State) → (outcome_in store run).«end» ≡ Ok state → All (λ pairs. All (λ (p : Pair). IsBoundOfData state.objects p.content) pairs) state.pairs

-- no definition in a file that a link wrote is refused as inexact, nor an entry of one; and the data of all such files
-- that are loaded lie apart
abbrev pub LoadsKeepBounds : Type 0
LoadsKeepBounds = (store : Store) (run : Run) → KeepsBounds store run
