-- How a start and calls go, and what they have told on the error output.
use Rattle.std.specs.Prelude.{◌≡◌, ℕ, Bool, true, false, List, [], ◌∷◌, ◌++◌, flat_map, Option, Some, None, option_map, IfSome, Result, Ok, Err}
use Rattle.cap_base.specs.Outside.{Store, Sends, SendsNext}
use Rattle.cap_mem.specs.Tagged.{TaggedMemory}
use Rattle.cap_audit.specs.declared.finding.Finding.{Finding}
use Rattle.cap_session.specs.declared.form.Form.{Form}
use Rattle.cap_session.specs.declared.refusal.OpenCause.{OpenCause}
use Rattle.cap_session.specs.declared.refusal.OpenCause.TheVariants.{ReadFault, NoMemory}
use Rattle.cap_session.specs.declared.refusal.OpenRefusal.{OpenRefusal}
use Rattle.cap_session.specs.Loading.{fetch_from}
use Rattle.cap_session.specs.State.{State}
use Rattle.cap_session.specs.Calls.{Call, Outcome, outcome_from, outcome_of, passes_over}
use Rattle.cap_session.specs.Session.{SessionValue, StandsFor}
use Rattle.cap_session.specs.Refused.{CauseCounted}
use Rattle.purecap.specs.declared.faults.Failure.{Failure}
use Rattle.purecap.specs.declared.faults.Failure.TheVariants as failures
use Rattle.purecap.specs.Faults.{failure_of, refusal_line}
use Rattle.purecap.specs.ProgramWords.{ProgramWords}
use Rattle.purecap.specs.Story.{Product, Differing, Story}
use Rattle.purecap.specs.Answer.{story_by, note_lines}
use Rattle.purecap.specs.Run.{Count, Stream, Disk, IsStill, IsKept, Says, IsUntouched, IsNothing, IsEntered, IsBroken, IsWritten, IsGiven, IsGivenPart, IsEndOf, target_of, EndsAs}
use Rattle.purecap.specs.Printing.{Told, IsLast}

abbrev pub joined : List (List ℕ) → List ℕ
joined lines = flat_map (λ l. l) lines

-- these lines were sent
abbrev pub Tells : Stream → List (List ℕ) → Told → Type 0
Tells err [] told = IsStill err × (told ≡ Ok tt)
Tells err (line ∷ lines) told = Sends err.old err.new err.faults.before err.faults.now (line ++ joined lines) told

-- these lines were sent behind others, unless a write of those failed
abbrev pub TellsNext : Told → Stream → List (List ℕ) → Told → Type 0
TellsNext so_far err [] told = IsStill err × (told ≡ so_far)
TellsNext so_far err (line ∷ lines) told = SendsNext so_far err.old err.new err.faults.before err.faults.now (line ++ joined lines) told

-- an outcome with these notes in front of its own
abbrev pub with_notes : List OpenRefusal → Outcome → Outcome
with_notes notes o = record { notes = notes ++ o.notes; «end» = o.«end» }

-- what calls lead a session to, where the store tells its files
abbrev pub Leads : Option Store → SessionValue → List Call → Option Outcome → Type 0
Leads None s calls outcome = outcome ≡ None
Leads (Some store) s calls outcome = (state : State) × StandsFor s state × (outcome ≡ Some (outcome_from (fetch_from store) s.dir s.rule calls (Ok state)))

-- an outcome is these notes, and then what is left leads to
pub record LeadsOn (told : Option Store) (s : SessionValue) (left : List Call) (notes : List OpenRefusal) (outcome : Option Outcome) : Type 0 where
  pub rest : Option Outcome
  pub leads : Leads told s left rest
  pub is : outcome ≡ option_map (with_notes notes) rest

-- a refusal ends the calls behind these notes, by its cause; behind a fault and where memory ran out there may be more
abbrev pub EndsCalls : List OpenRefusal → OpenRefusal → OpenCause → Outcome → Type 0
EndsCalls notes refusal ReadFault o = (later : List OpenRefusal) × (o.notes ≡ notes ++ later)
EndsCalls notes refusal NoMemory o = (later : List OpenRefusal) × (o.notes ≡ notes ++ later)
EndsCalls notes refusal cause o = o ≡ record { notes = notes; «end» = Err refusal }

-- whether a call of this form passes over a failure: not where the store or memory failed it
abbrev pub is_passed : Form → Failure → Bool
is_passed form failures.ReadFault = false
is_passed form failures.NoMemory = false
is_passed form failure = passes_over form

-- the line of a refusal was sent behind others
abbrev pub IsTold : OpenRefusal → Stream → Told → Told → Type 0
IsTold refusal err so_far next = SendsNext so_far err.old err.new err.faults.before err.faults.now (refusal_line refusal) next

-- a refusal is told, and passed over, or not
abbrev pub Passes : Form → OpenRefusal → Stream → Told → Result Told Failure → Type 0
Passes form refusal err so_far (Ok next) = (is_passed form (failure_of refusal.cause) ≡ true) × IsTold refusal err so_far next
Passes form refusal err so_far (Err failure) =
    (is_passed form (failure_of refusal.cause) ≡ false) × (failure ≡ failure_of refusal.cause) × ((next : Told) × IsTold refusal err so_far next)

-- a call was made, or passed over; the others go on from there
pub record HasMade (told : Option Store) (old new : SessionValue) (call : Call) (reads : Count) (err : Stream) (so_far next : Told) : Type 0 where
  pub notes : List OpenRefusal
  pub says : TellsNext so_far err (note_lines notes) next
  pub leads : (left : List Call) (outcome : Option Outcome) → Leads told old (call ∷ left) outcome → LeadsOn told new left notes outcome
  pub reads_kept : IsKept reads

-- a call ended the run
pub record HasEnded (told : Option Store) (old : SessionValue) (call : Call) (reads : Count) (err : Stream) (so_far : Told) (failure : Failure) : Type 0 where
  pub refusal : OpenRefusal
  pub is_failure : failure ≡ failure_of refusal.cause
  pub next : Told
  pub says : IsTold refusal err so_far next
  pub leads : (left : List Call) (outcome : Option Outcome) → Leads told old (call ∷ left) outcome → IfSome outcome (EndsCalls [] refusal refusal.cause)
  pub counted : CauseCounted reads.before reads.now refusal.cause

abbrev pub Makes : Option Store → SessionValue → SessionValue → Call → Count → Stream → Told → Result Told Failure → Type 0
Makes told old new call reads err so_far (Ok next) = HasMade told old new call reads err so_far next
Makes told old new call reads err so_far (Err failure) = HasEnded told old call reads err so_far failure

-- calls were made, and others are left
pub record HasCalled (told : Option Store) (old new : SessionValue) (calls left : List Call) (reads : Count) (err : Stream) (next : Told) : Type 0 where
  pub notes : List OpenRefusal
  pub says : Tells err (note_lines notes) next
  pub leads : (outcome : Option Outcome) → Leads told old calls outcome → LeadsOn told new left notes outcome
  pub reads_kept : IsKept reads

-- a start or a call ended the run, of which this is the outcome
pub record IsEnded (outcome : Option Outcome) (reads : Count) (err : Stream) (failure : Failure) : Type 0 where
  pub notes : List OpenRefusal
  pub refusal : OpenRefusal
  pub is_failure : failure ≡ failure_of refusal.cause
  pub says : Says err (note_lines notes ++ refusal_line refusal ∷ [])
  pub ends : IfSome outcome (EndsCalls notes refusal refusal.cause)
  pub counted : CauseCounted reads.before reads.now refusal.cause

abbrev pub Calls : Option Store → SessionValue → SessionValue → List Call → Count → Stream → Result Told Failure → Type 0
Calls told old new calls reads err (Ok next) = HasCalled told old new calls [] reads err next
Calls told old new calls reads err (Err failure) = (outcome : Option Outcome) → Leads told old calls outcome → IsEnded outcome reads err failure

-- the outcome of the start and the calls of a program, where the store tells its files
abbrev pub outcome_in : Option Store → ProgramWords → Option Outcome
outcome_in told words = option_map (λ store. outcome_of (fetch_from store) words.dir words.main words.rule words.calls) told

-- the program started, or its start ended the run
pub record HasBegun (words : ProgramWords) (told : Option Store) (reads : Count) (err : Stream) (s : SessionValue) : Type 0 where
  pub leads : Leads told s words.calls (outcome_in told words)
  pub still : IsStill err
  pub reads_kept : IsKept reads

abbrev pub Begins : ProgramWords → Option Store → Count → Stream → Result SessionValue Failure → Type 0
Begins words told reads err (Ok s) = HasBegun words told reads err s
Begins words told reads err (Err failure) = IsEnded (outcome_in told words) reads err failure

-- these bytes were written in a file, or a front of them
abbrev pub SavesFile : List ℕ → List ℕ → Disk → Stream → Told → Result Unit Failure → Type 0
SavesFile path bytes disk err so_far (Ok _) = IsEntered disk path bytes × IsStill err × IsKept disk.reads
SavesFile path bytes disk err so_far (Err failure) =
    (failure ≡ failures.WriteFault) × IsBroken disk path bytes × IsLast path failures.WriteFault err so_far × IsKept disk.reads

-- how an image differs was printed, and told behind other lines
pub record IsToldDifferent (product : Product) (disk : Disk) (out err : Stream) (kept : List TaggedMemory) (so_far : Told) : Type 0 where
  pub path : List ℕ
  pub output : List ℕ
  pub is : product ≡ Differing path output
  pub untouched : IsUntouched disk
  pub written : IsWritten out output
  pub none : kept ≡ []
  pub told : IsLast path failures.Differs err so_far
  pub reads_kept : IsKept disk.reads

-- behind all calls, this product was given, or a front of it, or memory ran out before; each failure was told behind
-- other lines
abbrev pub Finishes : Product → Disk → Stream → Stream → List TaggedMemory → Told → Result Unit Failure → Type 0
Finishes product disk out err kept so_far (Ok _) = IsGiven product disk out kept × IsStill err × IsKept disk.reads
Finishes product disk out err kept so_far (Err failures.WriteFault) =
    IsGivenPart product disk out kept × IsLast (target_of product) failures.WriteFault err so_far × IsKept disk.reads
Finishes product disk out err kept so_far (Err failures.NoMemory) = IsNothing disk out kept × IsLast [] failures.NoMemory err so_far × IsKept disk.reads
Finishes product disk out err kept so_far (Err failures.Differs) = IsToldDifferent product disk out err kept so_far
Finishes product disk out err kept so_far (Err failure) = ⊥

-- where there are findings, it is told behind other lines that the image of this path differs
abbrev pub TellsDifference : List ℕ → List Finding → Stream → Told → Result Unit Failure → Type 0
TellsDifference path [] err so_far end = (end ≡ Ok tt) × IsStill err
TellsDifference path (finding ∷ others) err so_far end = (end ≡ Err failures.Differs) × IsLast path failures.Differs err so_far

-- what a start and calls with this outcome come to, of which a command makes this, and how it ended
pub record Comes (product : State → Product) (IsProduct : Product → Type 0) (outcome : Option Outcome) (disk : Disk) (out err : Stream) (kept : List TaggedMemory) (end : Result Unit Failure) : Type 0 where
  pub story : Story
  pub is_story : IfSome outcome (λ o. story ≡ story_by product o)
  pub is_end : IsEndOf IsProduct story.«end»
  pub ends : EndsAs story disk out err kept end

-- the memories are kept where all ended well
abbrev pub kept_by : Result Unit Failure → List TaggedMemory → List TaggedMemory
kept_by (Ok _) memories = memories
kept_by (Err failure) memories = []

-- the calls of a session were made and the product given, or a refusal or a fault ended the run
abbrev pub Carries : (State → Product) → (Product → Type 0) → SessionValue → List Call → Disk → Stream → Stream → List TaggedMemory → Result Unit Failure → Type 0
Carries product IsProduct session calls disk out err kept end =
    (outcome : Option Outcome) → Leads disk.old session calls outcome → Comes product IsProduct outcome disk out err kept end
