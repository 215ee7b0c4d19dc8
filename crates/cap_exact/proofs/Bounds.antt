-- The bounds of a state's capabilities are those of data of the objects that own them.
use Rattle.std.proofs.Common.{ℕ, ◌<◌, inl, inr, List, length, get_or, map, sym, ◌∙◌, subst}
use Rattle.std.specs.Prelude.{All, Contains, IfSome, Option, slice_get, slice_index}
use Rattle.std.proofs.lemmas.Bool.{false≢true}
use Rattle.std.proofs.lemmas.List.{get_or-map}
use Rattle.std.proofs.lemmas.List.Elements.{All-weaker}
use Rattle.std.proofs.lemmas.Option.{slice_get-get_or}
use Rattle.cap_elf.specs.DynView.{DynRecords}
use Rattle.cap_fits.specs.Fits.{loaded_intervals}
use Rattle.cap_reloc.specs.Wanted.{Content, Number, Untagged, Tagged, Pair}
use Rattle.cap_scope.specs.Chosen.{no_records, object_at}
use Rattle.cap_session.specs.Exact.{IsBoundOf}
use Rattle.cap_session.specs.Loading.{Loaded, records_of}
use Rattle.cap_exact.specs.Loads.{IsBoundOfData, loaded_data}
use Rattle.cap_exact.proofs.Standing.{no_object}

owner-data : (objects : List Loaded) (i : ℕ) (x : ℕ × ℕ) → i < length objects → Contains (loaded_intervals (object_at (map records_of objects) i) (slice_index (map (λ (o : Loaded). o.base) objects) i)) x
    → IfSome (slice_get objects i) (λ o. Contains (loaded_data o) x)
owner-data objects i x lt h =
    let o : Loaded = get_or objects i no_object in
    subst (λ (s : Option Loaded). IfSome s (λ o. Contains (loaded_data o) x)) (sym (slice_get-get_or objects i no_object lt))
    (subst (λ (b : ℕ). Contains (loaded_intervals (records_of o) b) x) (get_or-map (λ (o : Loaded). o.base) objects i no_object 0 lt)
    (subst (λ (r : DynRecords). Contains (loaded_intervals r (slice_index (map (λ (o : Loaded). o.base) objects) i)) x) (get_or-map records_of objects i no_object no_records lt) h))

bound-of-data : (objects : List Loaded) (content : Content) → IsBoundOf objects content → IsBoundOfData objects content
bound-of-data objects (Number n) h = tt
bound-of-data objects (Untagged n) h = tt
bound-of-data objects (Tagged c note) (inl is) = λ not. absurd (false≢true (sym not ∙ is))
bound-of-data objects (Tagged c note) (inr h) = λ not. owner-data objects c.owner (c.base, c.len) h.0 h.1

pub bounds-of-data : (objects : List Loaded) (pairs : List (List Pair)) → All (λ ps. All (λ (p : Pair). IsBoundOf objects p.content) ps) pairs → All (λ ps. All (λ (p : Pair). IsBoundOfData objects p.content) ps) pairs
bounds-of-data objects pairs h =
    All-weaker (λ (ps : List Pair). All (λ (p : Pair). IsBoundOf objects p.content) ps) (λ (ps : List Pair). All (λ (p : Pair). IsBoundOfData objects p.content) ps)
    (λ ps. All-weaker (λ (p : Pair). IsBoundOf objects p.content) (λ (p : Pair). IsBoundOfData objects p.content) (λ p. bound-of-data objects p.content) ps) pairs h
