-- How commands end, by cases.
use Rattle.std.proofs.Common.{◌≡◌, ◌≢◌, ℕ, Bool, true, false, List, Result, Ok, Err, refl, arith}
use Rattle.cap_mem.specs.Tagged.{TaggedMemory}
use Rattle.purecap.specs.declared.faults.Failure.{Failure}
use Rattle.purecap.specs.declared.faults.Failure.TheVariants.{Usage, NoFile, Malformed, Unsupported, Unresolved, Inexact, Full, Limit, ReadFault, WriteFault, NoMemory, NoWord, Differs}
use Rattle.purecap.specs.Faults.{status_of}
use Rattle.purecap.specs.Story.{Story}
use Rattle.purecap.specs.Run.{Stream, Disk, IsDone, IsCutShort, IsDifferent, IsRefused, IsUnread, IsStarved, EndsAs}

-- a failure that the words define
abbrev pub is_of_words : Failure → Bool
is_of_words Usage = true
is_of_words (Limit check) = true
is_of_words failure = false

-- no file and no call gives this failure
abbrev pub of_no_file : Failure → Bool
of_no_file Usage = true
of_no_file (NoWord slot) = true
of_no_file Differs = true
of_no_file failure = false

-- the test holds of the failure, where there is one
abbrev pub or_fails : {A : Type 0} → (Failure → Bool) → Result A Failure → Bool
or_fails test (Ok a) = true
or_fails test (Err failure) = test failure

-- the status is not that of success, of a fault, of want of memory, or of an image that differs
pub record IsRefusal (status : ℕ) : Type 0 where
  pub not_done : status ≢ 0
  pub not_unread : status ≢ 10
  pub not_cut : status ≢ 11
  pub not_starved : status ≢ 12
  pub not_different : status ≢ 15

-- the ways in which a command may end of which this is the story
pub data Way (story : Story) (disk : Disk) (out err : Stream) (kept : List TaggedMemory) (end : Result Unit Failure) : Type 0 where
  Done : end ≡ Ok tt → IsDone story disk out err kept → Way story disk out err kept end
  Unread : end ≡ Err ReadFault → IsUnread story disk out err kept → Way story disk out err kept end
  CutShort : end ≡ Err WriteFault → IsCutShort story disk out err kept → Way story disk out err kept end
  Starved : end ≡ Err NoMemory → IsStarved story disk out err kept → Way story disk out err kept end
  Different : end ≡ Err Differs → IsDifferent story disk out err kept → Way story disk out err kept end
  Refused : (failure : Failure) → end ≡ Err failure → IsRefusal (status_of failure) → IsRefused story failure disk out err kept → Way story disk out err kept end

pub refusal_2 : IsRefusal 2
refusal_2 = record { not_done = λ e. omega (arith, e); not_unread = λ e. omega (arith, e); not_cut = λ e. omega (arith, e); not_starved = λ e. omega (arith, e); not_different = λ e. omega (arith, e) }

refusal_3 : IsRefusal 3
refusal_3 = record { not_done = λ e. omega (arith, e); not_unread = λ e. omega (arith, e); not_cut = λ e. omega (arith, e); not_starved = λ e. omega (arith, e); not_different = λ e. omega (arith, e) }

refusal_4 : IsRefusal 4
refusal_4 = record { not_done = λ e. omega (arith, e); not_unread = λ e. omega (arith, e); not_cut = λ e. omega (arith, e); not_starved = λ e. omega (arith, e); not_different = λ e. omega (arith, e) }

refusal_5 : IsRefusal 5
refusal_5 = record { not_done = λ e. omega (arith, e); not_unread = λ e. omega (arith, e); not_cut = λ e. omega (arith, e); not_starved = λ e. omega (arith, e); not_different = λ e. omega (arith, e) }

refusal_6 : IsRefusal 6
refusal_6 = record { not_done = λ e. omega (arith, e); not_unread = λ e. omega (arith, e); not_cut = λ e. omega (arith, e); not_starved = λ e. omega (arith, e); not_different = λ e. omega (arith, e) }

refusal_7 : IsRefusal 7
refusal_7 = record { not_done = λ e. omega (arith, e); not_unread = λ e. omega (arith, e); not_cut = λ e. omega (arith, e); not_starved = λ e. omega (arith, e); not_different = λ e. omega (arith, e) }

refusal_8 : IsRefusal 8
refusal_8 = record { not_done = λ e. omega (arith, e); not_unread = λ e. omega (arith, e); not_cut = λ e. omega (arith, e); not_starved = λ e. omega (arith, e); not_different = λ e. omega (arith, e) }

refusal_9 : IsRefusal 9
refusal_9 = record { not_done = λ e. omega (arith, e); not_unread = λ e. omega (arith, e); not_cut = λ e. omega (arith, e); not_starved = λ e. omega (arith, e); not_different = λ e. omega (arith, e) }

pub refusal_14 : IsRefusal 14
refusal_14 = record { not_done = λ e. omega (arith, e); not_unread = λ e. omega (arith, e); not_cut = λ e. omega (arith, e); not_starved = λ e. omega (arith, e); not_different = λ e. omega (arith, e) }

pub way_of : (story : Story) (disk : Disk) (out err : Stream) (kept : List TaggedMemory) (end : Result Unit Failure) → EndsAs story disk out err kept end → Way story disk out err kept end
way_of story disk out err kept (Ok _) ends = Done refl ends
way_of story disk out err kept (Err Usage) ends = Refused Usage refl refusal_2 ends
way_of story disk out err kept (Err NoFile) ends = Refused NoFile refl refusal_3 ends
way_of story disk out err kept (Err (Malformed check at)) ends = Refused (Malformed check at) refl refusal_4 ends
way_of story disk out err kept (Err (Unsupported check at)) ends = Refused (Unsupported check at) refl refusal_5 ends
way_of story disk out err kept (Err (Unresolved name)) ends = Refused (Unresolved name) refl refusal_6 ends
way_of story disk out err kept (Err (Inexact name base len)) ends = Refused (Inexact name base len) refl refusal_7 ends
way_of story disk out err kept (Err (Full asked)) ends = Refused (Full asked) refl refusal_8 ends
way_of story disk out err kept (Err (Limit check)) ends = Refused (Limit check) refl refusal_9 ends
way_of story disk out err kept (Err ReadFault) ends = Unread refl ends
way_of story disk out err kept (Err WriteFault) ends = CutShort refl ends
way_of story disk out err kept (Err NoMemory) ends = Starved refl ends
way_of story disk out err kept (Err (NoWord slot)) ends = Refused (NoWord slot) refl refusal_14 ends
way_of story disk out err kept (Err Differs) ends = Different refl ends

-- the statuses tell the failures apart
pub status_usage : (failure : Failure) → status_of failure ≡ 2 → failure ≡ Usage
status_usage Usage is = refl
status_usage NoFile is = absurd (omega (arith, is))
status_usage (Malformed check at) is = absurd (omega (arith, is))
status_usage (Unsupported check at) is = absurd (omega (arith, is))
status_usage (Unresolved name) is = absurd (omega (arith, is))
status_usage (Inexact name base len) is = absurd (omega (arith, is))
status_usage (Full asked) is = absurd (omega (arith, is))
status_usage (Limit check) is = absurd (omega (arith, is))
status_usage ReadFault is = absurd (omega (arith, is))
status_usage WriteFault is = absurd (omega (arith, is))
status_usage NoMemory is = absurd (omega (arith, is))
status_usage (NoWord slot) is = absurd (omega (arith, is))
status_usage Differs is = absurd (omega (arith, is))

-- a failure that the words and files decide
abbrev pub is_decided : Failure → Bool
is_decided ReadFault = false
is_decided WriteFault = false
is_decided NoMemory = false
is_decided Differs = false
is_decided failure = true

-- the kinds of failures
pub data Kind (failure : Failure) : Type 0 where
  OfReading : failure ≡ ReadFault → Kind failure
  OfWriting : failure ≡ WriteFault → Kind failure
  OfMemory : failure ≡ NoMemory → Kind failure
  OfAudit : failure ≡ Differs → Kind failure
  Decided : is_decided failure ≡ true → Kind failure

pub kind_of : (failure : Failure) → Kind failure
kind_of Usage = Decided refl
kind_of NoFile = Decided refl
kind_of (Malformed check at) = Decided refl
kind_of (Unsupported check at) = Decided refl
kind_of (Unresolved name) = Decided refl
kind_of (Inexact name base len) = Decided refl
kind_of (Full asked) = Decided refl
kind_of (Limit check) = Decided refl
kind_of ReadFault = OfReading refl
kind_of WriteFault = OfWriting refl
kind_of NoMemory = OfMemory refl
kind_of (NoWord slot) = Decided refl
kind_of Differs = OfAudit refl

-- a story that ends with such a failure
pub decided_ends : (story : Story) (disk : Disk) (out err : Stream) (kept : List TaggedMemory) (failure : Failure) → is_decided failure ≡ true → IsRefused story failure disk out err kept
    → EndsAs story disk out err kept (Err failure)
decided_ends story disk out err kept Usage is refused = refused
decided_ends story disk out err kept NoFile is refused = refused
decided_ends story disk out err kept (Malformed check at) is refused = refused
decided_ends story disk out err kept (Unsupported check at) is refused = refused
decided_ends story disk out err kept (Unresolved name) is refused = refused
decided_ends story disk out err kept (Inexact name base len) is refused = refused
decided_ends story disk out err kept (Full asked) is refused = refused
decided_ends story disk out err kept (Limit check) is refused = refused
decided_ends story disk out err kept ReadFault is refused = cc
decided_ends story disk out err kept WriteFault is refused = cc
decided_ends story disk out err kept NoMemory is refused = cc
decided_ends story disk out err kept (NoWord slot) is refused = refused
decided_ends story disk out err kept Differs is refused = cc
