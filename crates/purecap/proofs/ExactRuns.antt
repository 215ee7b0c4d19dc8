-- A run that loads a program keeps exact bounds, and answers 7 for nothing but bounds.
use Rattle.std.proofs.Common.{◌≡◌, ℕ, Bool, false, List, Option, Some, None, IfSome, Result, Ok, Err, refl, sym, ap, subst, ◌∙◌, arith}
use Rattle.std.specs.Prelude.{◌==◌}
use Rattle.std.proofs.lemmas.Bool.Decides.{nat_tests}
use Rattle.cap_base.specs.Outside.{Store, file_in}
use Rattle.cap_mem.specs.Tagged.{TaggedMemory}
use Rattle.cap_image.specs.Parts.{ImageParts}
use Rattle.cap_exact.specs.Loads.{LoadsKeepBounds}
use Rattle.cap_session.specs.declared.refusal.OpenCause.{OpenCause}
use Rattle.cap_session.specs.declared.refusal.OpenCause.TheVariants as causes
use Rattle.cap_session.specs.declared.refusal.OpenRefusal.{OpenRefusal}
use Rattle.cap_session.specs.Calls.{Outcome}
use Rattle.cap_session.specs.Exact.{IsInexact, IsInexactCause}
use Rattle.cap_session.specs.State.{State}
use Rattle.purecap.specs.declared.faults.Failure.{Failure}
use Rattle.purecap.specs.declared.faults.Failure.TheVariants.{Usage}
use Rattle.purecap.specs.Faults.{status_of, failure_of}
use Rattle.purecap.specs.ProgramWords.{ProgramWords}
use Rattle.purecap.specs.Words.{Command, Show, Load, Link, Demo, Init, Reach, Audit, LoadWords, command_of}
use Rattle.purecap.specs.Images.{image_in}
use Rattle.purecap.specs.Story.{Product, Stop, stop_at, Story}
use Rattle.cap_loaded.specs.Images.{state_image}
use Rattle.purecap.specs.Answer.{ended_by, program_outcome, saved, called, compared, audit_by, audit_story, init_story, load_story}
use Rattle.purecap.specs.Run.{Stream, Disk, EndsAs, Loads, Inits, Audits, Ends, end_status, Runs}
use Rattle.purecap.specs.Exact.{run_of, IsRefusedForBounds, IsExactOf, IsExactRun}
use Rattle.purecap.proofs.ImageFails.{IsOfNoFile, fails_by, image_fails}
use Rattle.purecap.proofs.Ways.{Way, Done, Unread, CutShort, Starved, Different, Refused, way_of}

bounds_alone : (cause : OpenCause) → status_of (failure_of cause) ≡ 7 → IsInexactCause cause
bounds_alone causes.NoFile e = absurd (omega (arith, e))
bounds_alone (causes.Malformed check at) e = absurd (omega (arith, e))
bounds_alone (causes.Unsupported check at) e = absurd (omega (arith, e))
bounds_alone (causes.Unresolved name) e = absurd (omega (arith, e))
bounds_alone (causes.Inexact name base len) e = tt
bounds_alone (causes.Full asked left) e = absurd (omega (arith, e))
bounds_alone (causes.Limit check) e = absurd (omega (arith, e))
bounds_alone causes.ReadFault e = absurd (omega (arith, e))
bounds_alone causes.NoMemory e = absurd (omega (arith, e))

abbrev failure_in : Result Product Stop → Failure
failure_in (Ok product) = Usage
failure_in (Err stop) = stop.failure

-- an outcome that ends with the status of bounds
abbrev EndsInexact : Result State OpenRefusal → Type 0
EndsInexact end = (refusal : OpenRefusal) × (end ≡ Err refusal) × IsInexact refusal

ended : (product : State → Product) (end : Result State OpenRefusal) (path : List ℕ) (failure : Failure) → ended_by product end ≡ Err (stop_at path failure) → status_of failure ≡ 7 → EndsInexact end
ended product (Ok state) path failure is seven = cc
ended product (Err refusal) path failure is seven =
    let same : failure_of refusal.cause ≡ failure = ap failure_in is in
    (refusal, refl, bounds_alone refusal.cause (ap status_of same ∙ seven))

-- the status is that of bounds
abbrev is_seven : Failure → Bool
is_seven failure = status_of failure == 7

none_seven : IsOfNoFile is_seven
none_seven = record { no_file = refl; malformed = λ check at. refl; unsupported = λ check at. refl; limit = λ check. refl }

-- the same of an image, which is refused for none
audited : (image : List ℕ) (given : Result ImageParts Failure) (outcome : Outcome) (path : List ℕ) (failure : Failure) → fails_by is_seven given ≡ false
    → (audit_by image given outcome).«end» ≡ Err (stop_at path failure) → status_of failure ≡ 7 → EndsInexact outcome.«end»
audited image (Ok given) outcome path failure fails is seven = ended (λ state. compared image given (state_image state)) outcome.«end» path failure is seven
audited image (Err other) outcome path failure fails is seven =
    let same : other ≡ failure = ap failure_in is in
    let status : status_of other ≡ 7 = ap status_of same ∙ seven in
    absurd (grind (arith, nat_tests, fails, status))

module _ (words : ProgramWords) (store : Store) (disk : Disk) (out err : Stream) (kept : List TaggedMemory) (end : Result Unit Failure) (story : Story)
    (inexact : (path : List ℕ) (failure : Failure) → story.«end» ≡ Err (stop_at path failure) → status_of failure ≡ 7 → EndsInexact (program_outcome words store).«end») where
  by_way : Way story disk out err kept end → end_status end ≡ 7 → IsRefusedForBounds store (run_of words)
  by_way (Done e d) seven = let zero : end_status end ≡ 0 = ap end_status e in absurd (omega (arith, zero, seven))
  by_way (Unread e u) seven = let ten : end_status end ≡ 10 = ap end_status e in absurd (omega (arith, ten, seven))
  by_way (CutShort e c) seven = let eleven : end_status end ≡ 11 = ap end_status e in absurd (omega (arith, eleven, seven))
  by_way (Starved e s) seven = let twelve : end_status end ≡ 12 = ap end_status e in absurd (omega (arith, twelve, seven))
  by_way (Different e d) seven = let fifteen : end_status end ≡ 15 = ap end_status e in absurd (omega (arith, fifteen, seven))
  by_way (Refused failure e own r) seven =
      let status : end_status end ≡ status_of failure = ap end_status e in
      let found = inexact r.path failure r.defined (sym status ∙ seven) in
      record { refusal = found.0; ended = found.1; inexact = found.2 }

  refused_so : EndsAs story disk out err kept end → end_status end ≡ 7 → IsRefusedForBounds store (run_of words)
  refused_so ends seven = by_way (way_of story disk out err kept end ends) seven

module _ (store : Store) (disk : Disk) (out err : Stream) (kept : List TaggedMemory) (end : Result Unit Failure) (told : disk.old ≡ Some store) where
  load_refused : (words : LoadWords) → Loads words disk out err kept end → end_status end ≡ 7 → IsRefusedForBounds store (run_of words.program)
  load_refused words ends =
      let is = subst (λ (o : Option Store). IfSome o (λ s. ends.story ≡ load_story words s)) told ends.is_story in
      refused_so words.program store disk out err kept end (load_story words store) (ended (saved words.image) (program_outcome words.program store).«end»)
      (subst (λ (story : Story). EndsAs story disk out err kept end) is ends.ends)

  init_refused : (words : ProgramWords) → Inits words disk out err kept end → end_status end ≡ 7 → IsRefusedForBounds store (run_of words)
  init_refused words ends =
      let is = subst (λ (o : Option Store). IfSome o (λ s. ends.story ≡ init_story words s)) told ends.is_story in
      refused_so words store disk out err kept end (init_story words store) (ended called (program_outcome words store).«end»)
      (subst (λ (story : Story). EndsAs story disk out err kept end) is ends.ends)

  audit_refused : (image : List ℕ) (words : ProgramWords) → Audits image words disk out err kept end → end_status end ≡ 7 → IsRefusedForBounds store (run_of words)
  audit_refused image words ends =
      let is = subst (λ (o : Option Store). IfSome o (λ s. (ends.file ≡ file_in s image) × (ends.story ≡ audit_story image words ends.file s))) told ends.is_story in
      refused_so words store disk out err kept end (audit_story image words ends.file store)
      (λ path failure. audited image (image_in ends.file) (program_outcome words store) path failure (image_fails is_seven none_seven ends.file))
      (subst (λ (story : Story). EndsAs story disk out err kept end) is.1 ends.ends)

exact_of : LoadsKeepBounds → (command : Result Command Failure) (store : Store) (disk : Disk) (out err : Stream) (kept : List TaggedMemory) (end : Result Unit Failure) → disk.old ≡ Some store
    → Ends command disk out err kept end → IsExactOf command store (end_status end)
exact_of law (Ok (Show image)) store disk out err kept end told ends = tt
exact_of law (Ok (Load words)) store disk out err kept end told ends =
    record { keeps = law store (run_of words.program); refused = load_refused store disk out err kept end told words ends }
exact_of law (Ok (Link words)) store disk out err kept end told ends = tt
exact_of law (Ok (Demo number)) store disk out err kept end told ends = tt
exact_of law (Ok (Init words)) store disk out err kept end told ends =
    record { keeps = law store (run_of words); refused = init_refused store disk out err kept end told words ends }
exact_of law (Ok (Reach image slot)) store disk out err kept end told ends = tt
exact_of law (Ok (Audit image words)) store disk out err kept end told ends =
    record { keeps = law store (run_of words); refused = audit_refused store disk out err kept end told image words ends }
exact_of law (Err failure) store disk out err kept end told ends = tt

exact_by : LoadsKeepBounds → (command : Result Command Failure) (disk : Disk) (out err : Stream) (kept : List TaggedMemory) (end : Result Unit Failure) → Ends command disk out err kept end
    → (told : Option Store) → disk.old ≡ told → IsExactRun command told (end_status end)
exact_by law command disk out err kept end ends None is = tt
exact_by law command disk out err kept end ends (Some store) is = exact_of law command store disk out err kept end is ends

pub exact_run : LoadsKeepBounds → (words : List (List ℕ)) (disk : Disk) (out err : Stream) (kept : List TaggedMemory) (status : ℕ) → Runs words disk out err kept status → IsExactRun (command_of words) disk.old status
exact_run law words disk out err kept status ran =
    subst (λ (s : ℕ). IsExactRun (command_of words) disk.old s) (sym ran.is_status) (exact_by law (command_of words) disk out err kept ran.end ran.ends disk.old refl)
