-- The next object, as the definition has it.
use Rattle.std.proofs.Common.{◌≡◌, ℕ, ◌⊎◌, inl, inr, ◌+◌, ◌-◌, ◌<◌, ◌≤◌, Bool, true, false, Option, Some, None, Result, Ok, Err, List, [], ◌∷◌, ◌++◌, length, map, refl, sym, ap, ◌∙◌, subst, arith}
use Rattle.std.specs.Prelude.{nat_le, nat_lt, IfSome}
use Rattle.std.specs.Int.{next_multiple_of}
use Rattle.std.proofs.lemmas.Bool.Decides.{nat_tests}
use Rattle.cap_base.specs.Check.{number_of}
use Rattle.cap_base.specs.Steps.{◌>>=◌, ◌>>◌}
use Rattle.cap_base.specs.declared.check.Check.TheVariants.{ObjectCount}
use Rattle.cap_base.specs.declared.refusal.Refusal.{Refusal}
use Rattle.cap_base.specs.declared.refusal.Refusal.TheVariants as refusals
use Rattle.cap_elf.specs.DynView.{DynRecords, DynValue}
use Rattle.cap_reloc.specs.Refusing.{refuse}
use Rattle.cap_session.specs.declared.refusal.OpenCause.{OpenCause}
use Rattle.cap_session.specs.declared.refusal.OpenCause.TheVariants.{NoFile, Malformed, Unsupported, Unresolved, Inexact, Full, Limit, ReadFault, NoMemory}
use Rattle.cap_session.specs.Adding.{HasNoRoom, next_base, next_loaded, numbered_source}
use Rattle.cap_session.specs.Causes.{IsCausedBy, refusal_cause}
use Rattle.cap_session.specs.Loading.{Fetch, Loaded, Source, next_object}
use Rattle.cap_session.specs.Roster.{RosterValue}

pub not_le : (n m : ℕ) → m < n → nat_le n m ≡ false
not_le n m h = grind (arith, nat_tests)

pub not_lt : (n m : ℕ) → m ≤ n → nat_lt n m ≡ false
not_lt n m h = grind (arith, nat_tests)

pub is_lt : (n m : ℕ) → n < m → nat_lt n m ≡ true
is_lt n m h = grind (arith, nat_tests)

-- a step that refuses
pub caused_on : {T U : Type 0} (w : Result T OpenCause) (f : T → Result U OpenCause) (cause : OpenCause) → IsCausedBy w cause → IsCausedBy (w >>= f) cause
caused_on w f NoFile h = ap (λ r. r >>= f) h
caused_on w f (Malformed check at) h = ap (λ r. r >>= f) h
caused_on w f (Unsupported check at) h = ap (λ r. r >>= f) h
caused_on w f (Unresolved name) h = ap (λ r. r >>= f) h
caused_on w f (Inexact name base len) h = ap (λ r. r >>= f) h
caused_on w f (Full asked left) h = ap (λ r. r >>= f) h
caused_on w f (Limit check) h = ap (λ r. r >>= f) h
caused_on w f ReadFault h = tt
caused_on w f NoMemory h = tt

-- the steps behind the file
abbrev placed : ℕ → List ℕ → Source → Result Loaded OpenCause
placed free name source =
    let base = next_multiple_of free source.records.align in
    refuse (nat_lt 0x44000000 (base + source.records.span)) (Full source.records.span (0x44000000 - free))
    >> Ok (record { name = name; source = source; base = base })

next_after : (fetch : Fetch) (path : List ℕ) (count free : ℕ) (name : List ℕ) → count < 256 → next_object fetch path count free name ≡ (fetch path >>= placed free name)
next_after fetch path count free name few = ap (λ b. refuse b (Limit (number_of ObjectCount)) >> (fetch path >>= placed free name)) (not_le 256 count few)

pub caused_fetch : (fetch : Fetch) (path : List ℕ) (count free : ℕ) (name : List ℕ) (cause : OpenCause) → count < 256 → IsCausedBy (fetch path) cause → IsCausedBy (next_object fetch path count free name) cause
caused_fetch fetch path count free name cause few h =
    subst (λ (r : Result Loaded OpenCause). IsCausedBy r cause) (sym (next_after fetch path count free name few)) (caused_on (fetch path) (placed free name) cause h)

pub next_found : (fetch : Fetch) (path : List ℕ) (r : RosterValue) (name : List ℕ) (source : Source) → length r.objects < 256 → fetch path ≡ Ok source
    → next_base r source.records + source.records.span ≤ 0x44000000 → next_object fetch path (length r.objects) r.next name ≡ Ok (next_loaded r source name)
next_found fetch path r name source few found fits =
    next_after fetch path (length r.objects) r.next name few
    ∙ ap (λ f. f >>= placed r.next name) found
    ∙ ap (λ b. refuse b (Full source.records.span (0x44000000 - r.next)) >> Ok (next_loaded r source name)) (not_lt 0x44000000 (next_base r source.records + source.records.span) fits)

pub next_full : (fetch : Fetch) (path : List ℕ) (r : RosterValue) (name : List ℕ) (source : Source) → length r.objects < 256 → fetch path ≡ Ok source
    → 0x44000000 < next_base r source.records + source.records.span → next_object fetch path (length r.objects) r.next name ≡ Err (Full source.records.span (0x44000000 - r.next))
next_full fetch path r name source few found passes =
    next_after fetch path (length r.objects) r.next name few
    ∙ ap (λ f. f >>= placed r.next name) found
    ∙ ap (λ b. refuse b (Full source.records.span (0x44000000 - r.next)) >> Ok (next_loaded r source name)) (is_lt 0x44000000 (next_base r source.records + source.records.span) passes)

-- a file that was read, for which there is no memory or no room
pub put_refused : (fetch : Fetch) (path : List ℕ) (r : RosterValue) (name : List ℕ) (source : Source) (refusal : Refusal) → length r.objects < 256
    → ((refusal ≡ refusals.NoMemory) ⊎ HasNoRoom r source.records refusal) → fetch path ≡ Ok source
    → IsCausedBy (next_object fetch path (length r.objects) r.next name) (refusal_cause refusal)
put_refused fetch path r name source refusal few (inl e) found =
    subst (λ (f : Refusal). IsCausedBy (next_object fetch path (length r.objects) r.next name) (refusal_cause f)) (sym e) tt
put_refused fetch path r name source refusal few (inr h) found =
    subst (λ (f : Refusal). IsCausedBy (next_object fetch path (length r.objects) r.next name) (refusal_cause f)) (sym h.refusal_is)
    (next_full fetch path r name source few found h.passes)

pub if_some_map : {X : Type 0} (P Q : X → Type 0) (o : Option X) → ((x : X) → P x → Q x) → IfSome o P → IfSome o Q
if_some_map P Q None f h = tt
if_some_map P Q (Some x) f h = f x h

abbrev numbered_at : ℕ → DynRecords → DynValue
numbered_at n records = record { number = n; records = records }

-- an object by its number and its records
pub numbered_is : (r : RosterValue) (object : DynValue) (bytes : List ℕ) → object.number ≡ length r.objects → object ≡ numbered_source r (record { bytes = bytes; records = object.records })
numbered_is r object bytes h = ap (λ (n : ℕ). numbered_at n object.records) h
