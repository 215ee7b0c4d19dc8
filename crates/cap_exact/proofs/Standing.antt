-- What a path gives in a store is a file that stands there, and its records.
use Rattle.std.proofs.Common.{◌≡◌, ℕ, List, [], length, refl, subst}
use Rattle.std.specs.Prelude.{◌^◌, All, Option, Some, None, Result, Ok, nat_lt, not}
use Rattle.std.proofs.lemmas.List.Elements.{All-weaker}
use Rattle.cap_base.specs.Check.{number_of}
use Rattle.cap_base.specs.Outside.{Store, file_in}
use Rattle.cap_base.specs.Steps.{◌>>=◌, ◌>>◌}
use Rattle.cap_base.specs.declared.check.Check.TheVariants.{FileSize, HashChain}
use Rattle.cap_elf.specs.DynView.{DynRecords, dyn_view}
use Rattle.cap_reloc.specs.Refusing.{refuse, or_refuse}
use Rattle.cap_session.specs.declared.refusal.OpenCause.{OpenCause}
use Rattle.cap_session.specs.declared.refusal.OpenCause.TheVariants.{NoFile, Malformed, Limit}
use Rattle.cap_session.specs.Exact.{IsFetched}
use Rattle.cap_session.specs.Loading.{Loaded, Source, bytes_from, cause_of, fetch_from, has_sound_table, records_from, records_of, refusal_as}
use Rattle.cap_session.proofs.Begins.{bind_ok, cause_ok_same}
use Rattle.cap_session.proofs.Gathered.{as-ok}
use Rattle.cap_session.proofs.ReadObjects.{unrefused}
use Rattle.cap_scope.specs.Chosen.{no_records}

-- the file of a loaded object stands in the store, and is read as its records
pub record Stands (store : Store) (o : Loaded) : Type 0 where
  pub path : List ℕ
  pub stands : file_in store path ≡ Some o.source.bytes
  pub read : dyn_view o.source.bytes ≡ Ok (records_of o)

-- an object with nothing in it
abbrev pub no_object : Loaded
no_object = record { name = []; source = record { bytes = []; records = no_records }; base = 0 }

there : {X Y : Type 0} (o : Option X) (cause : OpenCause) (f : X → Result Y OpenCause) (y : Y) → (or_refuse o cause >>= f) ≡ Ok y → (x : X) × (o ≡ Some x) × (f x ≡ Ok y)
there None cause f y h = absurd cc
there (Some x) cause f y h = (x, refl, h)

bytes-stand : (store : Store) (path bytes : List ℕ) → bytes_from store path ≡ Ok bytes → file_in store path ≡ Some bytes
bytes-stand store path bytes h =
    let found = there (file_in store path) NoFile (λ (b : List ℕ). refuse (nat_lt (2 ^ 26) (length b)) (Limit (number_of FileSize)) >> Ok b) bytes h in
    let kept = unrefused (nat_lt (2 ^ 26) (length found.0)) (Limit (number_of FileSize)) (Ok found.0) bytes found.2 in
    subst (λ (b : List ℕ). file_in store path ≡ Some b) (cause_ok_same found.0 bytes kept) found.1

abbrev with_table : DynRecords → Result DynRecords OpenCause
with_table records = refuse (not (has_sound_table records)) (Malformed (number_of HashChain) records.hash_at) >> Ok records

records-read : (bytes : List ℕ) (records : DynRecords) → records_from bytes ≡ Ok records → dyn_view bytes ≡ Ok records
records-read bytes records h =
    let view = bind_ok (refusal_as cause_of (dyn_view bytes)) with_table records h in
    let kept = unrefused (not (has_sound_table view.0)) (Malformed (number_of HashChain) view.0.hash_at) (Ok view.0) records view.2 in
    subst (λ (r : DynRecords). dyn_view bytes ≡ Ok r) (cause_ok_same view.0 records kept) (as-ok cause_of (dyn_view bytes) view.0 view.1)

abbrev IsFile : Store → List ℕ → Source → Type 0
IsFile store path source = (file_in store path ≡ Some source.bytes) × (dyn_view source.bytes ≡ Ok source.records)

abbrev made_source : List ℕ → DynRecords → Source
made_source bytes records = record { bytes = bytes; records = records }

is-file : (store : Store) (path : List ℕ) (source : Source) → fetch_from store path ≡ Ok source → IsFile store path source
is-file store path source h =
    let bytes = bind_ok (bytes_from store path) (λ b. records_from b >>= λ r. Ok (made_source b r)) source h in
    let records = bind_ok (records_from bytes.0) (λ r. Ok (made_source bytes.0 r)) source bytes.2 in
    subst (IsFile store path) (cause_ok_same (made_source bytes.0 records.0) source records.2)
    (bytes-stand store path bytes.0 bytes.1, records-read bytes.0 records.0 records.1)

pub all-stand : (store : Store) (objects : List Loaded) → All (IsFetched (fetch_from store)) objects → All (Stands store) objects
all-stand store objects h =
    All-weaker (IsFetched (fetch_from store)) (Stands store) (λ o fetched. let file = is-file store fetched.0 o.source fetched.1 in record { path = fetched.0; stands = file.0; read = file.1 }) objects h
