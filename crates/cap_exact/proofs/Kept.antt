-- Loads of files that a link wrote keep exact bounds.
use Rattle.std.proofs.Common.{ℕ, get_or, subst}
use Rattle.std.specs.Prelude.{All}
use Rattle.std.proofs.lemmas.List.{get_or-map}
use Rattle.std.proofs.lemmas.List.Elements.{All-weaker}
use Rattle.std.proofs.lemmas.Option.{slice_get-get_or}
use Rattle.cap_base.specs.Outside.{Store}
use Rattle.cap_elf.specs.DynView.{DynRecords}
use Rattle.cap_fits.specs.Fits.{Apart, Fits}
use Rattle.cap_link.specs.Laws.{IsLinked}
use Rattle.cap_scope.specs.Chosen.{no_records}
use Rattle.cap_session.specs.declared.refusal.OpenRefusal.{OpenRefusal}
use Rattle.cap_session.specs.Exact.{IsFetched, IsInexact, IsReached, IsUnfitIn, RunsAreSound, StatesAreReached, StatesLieApart, blamed}
use Rattle.cap_session.specs.Loading.{Loaded, fetch_from, records_of}
use Rattle.cap_session.specs.State.{State}
use Rattle.cap_exact.specs.Loads.{BlamesForeign, IsForeign, LinkedLieApart, LoadsKeepBounds, OnlyAliasesAreOne, Run, outcome_in}
use Rattle.cap_exact.proofs.Apart.{some-others, some-own}
use Rattle.cap_exact.proofs.Bounds.{bounds-of-data}
use Rattle.cap_exact.proofs.Linked.{FileLaws, linked-fits, only-aliases}
use Rattle.cap_exact.proofs.Standing.{Stands, all-stand, no_object}

-- what a session says of its runs
pub record RunLaws : Type 0 where
  pub reached : StatesAreReached
  pub apart : StatesLieApart
  pub runs : RunsAreSound

is-foreign : FileLaws → (store : Store) (o : Loaded) → Stands store o → (Fits (records_of o) → ⊥) → IsForeign store o
is-foreign files store o h unfit = record {
  path = h.path;
  stands = h.stands;
  foreign = λ linked. unfit (linked-fits files o.source.bytes linked (records_of o) h.read).0;
}

by-foreign : FileLaws → (store : Store) (run : Run) (refusal : OpenRefusal) → IsUnfitIn (fetch_from store) run.dir run.main run.rule run.calls refusal → BlamesForeign store run refusal
by-foreign files store run refusal h =
    let u = h.is_unfit in
    let i : ℕ = blamed u.index u.hit in
    let o : Loaded = get_or h.objects i no_object in
    let unfit : Fits (records_of o) → ⊥ = subst (λ (r : DynRecords). Fits r → ⊥) (get_or-map records_of h.objects i no_object no_records u.inside) u.unfit in
    record {
      objects = h.objects;
      start_count = h.start_count;
      openings = h.openings;
      loaded_by = h.loaded_by;
      fetched = h.fetched;
      is_unfit = u;
      object = o;
      object_is = slice_get-get_or h.objects i no_object u.inside;
      foreign = is-foreign files store o (all-stand store h.objects h.fetched i no_object u.inside) unfit;
    }

linked-apart : FileLaws → StatesLieApart → (store : Store) (state : State) → IsReached state → All (IsFetched (fetch_from store)) state.objects → LinkedLieApart state.objects
linked-apart files apart store state reached fetched =
    let stand : All (Stands store) state.objects = all-stand store state.objects fetched in
    let own : All (λ (o : Loaded). IsLinked o.source.bytes → Apart (records_of o)) state.objects =
    All-weaker (Stands store) (λ (o : Loaded). IsLinked o.source.bytes → Apart (records_of o)) (λ o stands linked. (linked-fits files o.source.bytes linked (records_of o) stands.read).1) state.objects stand in
    record {
      own = some-own state.objects IsLinked (apart state reached) own;
      aliases = All-weaker (Stands store) (λ (o : Loaded). OnlyAliasesAreOne o.source.bytes (records_of o)) (λ o stands. only-aliases files o.source.bytes (records_of o) stands.read) state.objects stand;
      others = some-others state.objects IsLinked (apart state reached) own;
    }

pub loads-keep : RunLaws → FileLaws → LoadsKeepBounds
loads-keep laws files store run = record {
  refuses = record {
    ended = λ refusal e inexact. by-foreign files store run refusal (laws.runs.ended store run.dir run.main run.rule run.calls refusal e inexact);
    noted =
        All-weaker (λ (refusal : OpenRefusal). IsInexact refusal → IsUnfitIn (fetch_from store) run.dir run.main run.rule run.calls refusal) (λ (refusal : OpenRefusal). IsInexact refusal → BlamesForeign store run refusal)
        (λ refusal h inexact. by-foreign files store run refusal (h inexact)) (outcome_in store run).notes (laws.runs.noted store run.dir run.main run.rule run.calls);
  };
  apart = λ state e.
      linked-apart files laws.apart store state (laws.reached.run store run.dir run.main run.rule run.calls state e) (laws.runs.fetched store run.dir run.main run.rule run.calls state e);
  bounds = λ state e. bounds-of-data state.objects state.pairs (laws.reached.run store run.dir run.main run.rule run.calls state e).bounds;
}
