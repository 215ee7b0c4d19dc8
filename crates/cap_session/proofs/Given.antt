-- What a store gives of a path was read, and bounds are no cause why it gives nothing.
use Rattle.std.proofs.Common.{◌≡◌, ℕ, suc, zero, ◌+◌, Bool, true, false, List, [], ◌∷◌, ◌++◌, length, refl, sym, subst}
use Rattle.std.specs.Prelude.{◌^◌, ◌-◌, Option, Some, None, Result, Ok, Err, nat_le, nat_lt, not, if◌then◌else◌}
use Rattle.std.specs.Int.{next_multiple_of}
use Rattle.cap_base.specs.Check.{class_of, number_of}
use Rattle.cap_base.specs.Outside.{Store, file_in}
use Rattle.cap_base.specs.Steps.{◌>>=◌, ◌>>◌}
use Rattle.cap_base.specs.declared.check.Check.TheVariants.{HashChain, ObjectCount, FileSize}
use Rattle.cap_base.specs.declared.check.Class.{Class}
use Rattle.cap_base.specs.declared.check.Class.TheVariants as classes
use Rattle.cap_elf.specs.DynView.{DynRecords, dyn_view}
use Rattle.cap_elf.specs.IsRead.{IsRead}
use Rattle.cap_reloc.specs.Refusing.{refuse, or_refuse}
use Rattle.cap_session.specs.declared.refusal.OpenCause.{OpenCause}
use Rattle.cap_session.specs.declared.refusal.OpenCause.TheVariants.{NoFile, Malformed, Limit, Full}
use Rattle.cap_session.specs.declared.refusal.OpenRefusal.{OpenRefusal}
use Rattle.cap_session.specs.Exact.{GivesRead, IsInexact, IsInexactCause}
use Rattle.cap_session.specs.Loading.{Fetch, Loaded, Source, at_path, bytes_from, cause_by, cause_of, closed, closed_by, fetch_from, first_unanswered, has_sound_table, loaded_next, next_free, next_object, one_more, path_of, records_from, refusal_as, with_needed}
use Rattle.cap_session.proofs.Begins.{bind_ok}
use Rattle.cap_session.proofs.Gathered.{as-err, as-ok}
use Rattle.cap_session.proofs.ReadObjects.{placing}

-- every refusal of an answer is one of these
abbrev pub Refuses : {A E : Type 0} → (E → Type 0) → Result A E → Type 0
Refuses {A} {E} Q r = (e : E) → r ≡ Err e → Q e

never-ok : {A E : Type 0} (Q : E → Type 0) (x : A) → Refuses Q (Ok x)
never-ok Q x e h = absurd cc

err-only : {A E : Type 0} (Q : E → Type 0) (e : E) → Q e → Refuses {A = A} Q (Err e)
err-only Q e q f h = let same : e ≡ f = cc in subst Q same q

refused-or : {A E : Type 0} (Q : E → Type 0) (b : Bool) (e : E) (r : Result A E) → Q e → Refuses Q r → Refuses Q (refuse b e >> r)
refused-or Q true e r q h = err-only Q e q
refused-or Q false e r q h = h

missing-or : {A X E : Type 0} (Q : E → Type 0) (o : Option X) (e : E) (f : X → Result A E) → Q e → ((x : X) → Refuses Q (f x)) → Refuses Q (or_refuse o e >>= f)
missing-or Q None e f q h = err-only Q e q
missing-or Q (Some x) e f q h = h x

both-steps : {A X E : Type 0} (Q : E → Type 0) (r : Result X E) (f : X → Result A E) → Refuses Q r → ((x : X) → Refuses Q (f x)) → Refuses Q (r >>= f)
both-steps Q (Ok x) f q h = h x
both-steps Q (Err e) f q h = err-only Q e (q e refl)

seen-as : {A E F : Type 0} (P : E → Type 0) (Q : F → Type 0) (view : E → F) (r : Result A E) → ((e : E) → P e → Q (view e)) → Refuses P r → Refuses Q (refusal_as view r)
seen-as P Q view r f h e is = let at = as-err view r e is in subst Q (sym at.2) (f at.0 (h at.0 at.1))

-- a cause that isn't bounds
abbrev pub IsOther : OpenCause → Type 0
IsOther cause = IsInexactCause cause → ⊥

abbrev pub IsOtherRefusal : OpenRefusal → Type 0
IsOtherRefusal refusal = IsInexact refusal → ⊥

-- ---- a store
class-other : (c : Class) (check at : ℕ) → IsOther (cause_by c check at)
class-other classes.Malformed check at h = h
class-other classes.Unsupported check at h = h
class-other classes.Limit check at h = h

bytes-other : (store : Store) (path : List ℕ) → Refuses IsOther (bytes_from store path)
bytes-other store path =
    missing-or IsOther (file_in store path) NoFile (λ bytes. refuse (nat_lt (2 ^ 26) (length bytes)) (Limit (number_of FileSize)) >> Ok bytes) (λ h. h) (λ bytes.
    refused-or IsOther (nat_lt (2 ^ 26) (length bytes)) (Limit (number_of FileSize)) (Ok bytes) (λ h. h) (never-ok IsOther bytes))

abbrev with_table : DynRecords → Result DynRecords OpenCause
with_table records = refuse (not (has_sound_table records)) (Malformed (number_of HashChain) records.hash_at) >> Ok records

records-other : (bytes : List ℕ) → Refuses IsOther (records_from bytes)
records-other bytes =
    both-steps IsOther (refusal_as cause_of (dyn_view bytes)) with_table
    (λ cause is. let at = as-err cause_of (dyn_view bytes) cause is in subst IsOther (sym at.2) (class-other (class_of at.0.check) (number_of at.0.check) at.0.at))
    (λ records. refused-or IsOther (not (has_sound_table records)) (Malformed (number_of HashChain) records.hash_at) (Ok records) (λ h. h) (never-ok IsOther records))

records-same : (x y : DynRecords) → ◌≡◌ {A = Result DynRecords OpenCause} (Ok x) (Ok y) → x ≡ y
records-same x y e = cc

source-same : (x y : Source) → ◌≡◌ {A = Result Source OpenCause} (Ok x) (Ok y) → x ≡ y
source-same x y e = cc

table-same : (b : Bool) (cause : OpenCause) (x y : DynRecords) → (refuse b cause >> Ok x) ≡ Ok y → x ≡ y
table-same true cause x y h = absurd cc
table-same false cause x y h = records-same x y h

pub store-gives : ((bytes : List ℕ) (object : DynRecords) → dyn_view bytes ≡ Ok object → IsRead object) → (store : Store) → GivesRead (fetch_from store)
store-gives read store = record {
  read = λ path source e.
      (let bytes = bind_ok (bytes_from store path) (λ bytes. records_from bytes >>= λ records. Ok (record { bytes = bytes; records = records })) source e in
      let records = bind_ok (records_from bytes.0) (λ records. Ok (record { bytes = bytes.0; records = records })) source bytes.2 in
      let view = bind_ok (refusal_as cause_of (dyn_view bytes.0)) with_table records.0 records.1 in
      let same = table-same (not (has_sound_table view.0)) (Malformed (number_of HashChain) view.0.hash_at) view.0 records.0 view.2 in
      let is = source-same (record { bytes = bytes.0; records = records.0 }) source records.2 in
      subst (λ (s : Source). IsRead s.records) is (subst IsRead same (read bytes.0 view.0 (as-ok cause_of (dyn_view bytes.0) view.0 view.1))));
  refused = λ path cause e.
      both-steps IsOther (bytes_from store path) (λ bytes. records_from bytes >>= λ records. Ok (record { bytes = bytes; records = records })) (bytes-other store path)
      (λ bytes. both-steps IsOther (records_from bytes) (λ records. Ok (record { bytes = bytes; records = records })) (records-other bytes) (λ records. never-ok IsOther (record { bytes = bytes; records = records })))
      cause e;
}

-- ---- loading
next-other : (fetch : Fetch) (path : List ℕ) (objects : List Loaded) (name : List ℕ) → GivesRead fetch → Refuses IsOther (one_more fetch path objects name)
next-other fetch path objects name given =
    both-steps IsOther (next_object fetch path (length objects) (next_free objects) name) (λ object. Ok (objects ++ object ∷ []))
    (refused-or IsOther (nat_le 256 (length objects)) (Limit (number_of ObjectCount)) (fetch path >>= placing (next_free objects) name) (λ h. h)
    (both-steps IsOther (fetch path) (placing (next_free objects) name) (given.refused path) (λ source.
    let base = next_multiple_of (next_free objects) source.records.align in
    refused-or IsOther (nat_lt 0x44000000 (base + source.records.span)) (Full source.records.span (0x44000000 - next_free objects)) (Ok (record { name = name; source = source; base = base })) (λ h. h)
    (never-ok IsOther (record { name = name; source = source; base = base })))))
    (λ object. never-ok IsOther (objects ++ object ∷ []))

loaded-other : (fetch : Fetch) (dir : List ℕ) (objects : List Loaded) (name : List ℕ) → GivesRead fetch → Refuses IsOtherRefusal (loaded_next fetch dir objects name)
loaded-other fetch dir objects name given =
    seen-as IsOther IsOtherRefusal (at_path (path_of dir (length objects) name)) (one_more fetch (path_of dir (length objects) name) objects name) (λ cause other. other) (next-other fetch (path_of dir (length objects) name) objects name given)

closed-other : (n : ℕ) (fetch : Fetch) (dir : List ℕ) (objects : List Loaded) → GivesRead fetch → Refuses IsOtherRefusal (closed_by n fetch dir objects)
closed-other zero fetch dir objects given = go (first_unanswered objects)
  where
    go : (o : Option (List ℕ)) → Refuses IsOtherRefusal (elim o [ None ↦ Ok objects | Some name ↦ loaded_next fetch dir objects name ])
    go None = never-ok IsOtherRefusal objects
    go (Some name) = loaded-other fetch dir objects name given
closed-other (suc n) fetch dir objects given = go (λ more. closed-other n fetch dir more given) (first_unanswered objects)
  where
    go : ((more : List Loaded) → Refuses IsOtherRefusal (closed_by n fetch dir more))
        → (o : Option (List ℕ)) → Refuses IsOtherRefusal (elim o [ None ↦ Ok objects | Some name ↦ loaded_next fetch dir objects name >>= λ more. closed_by n fetch dir more ])
    go rest None = never-ok IsOtherRefusal objects
    go rest (Some name) = both-steps IsOtherRefusal (loaded_next fetch dir objects name) (closed_by n fetch dir) (loaded-other fetch dir objects name given) rest

pub needed-other : (fetch : Fetch) (dir : List ℕ) (objects : List Loaded) (name : List ℕ) → GivesRead fetch → Refuses IsOtherRefusal (with_needed fetch dir objects name)
needed-other fetch dir objects name given =
    both-steps IsOtherRefusal (loaded_next fetch dir objects name) (closed fetch dir) (loaded-other fetch dir objects name given) (λ next. closed-other (256 - length next) fetch dir next given)

pub named-other : (fetch : Fetch) (dir : List ℕ) (objects : List Loaded) (name : List ℕ) (found : Bool) → GivesRead fetch → Refuses IsOtherRefusal (if found then Ok objects else with_needed fetch dir objects name)
named-other fetch dir objects name true given = never-ok IsOtherRefusal objects
named-other fetch dir objects name false given = needed-other fetch dir objects name given
