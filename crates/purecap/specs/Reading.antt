-- Why the image in a file is not reported.
use Rattle.std.specs.Prelude.{◌≡◌, Result, Err}
use Rattle.cap_base.specs.Check.{number_of}
use Rattle.cap_base.specs.declared.check.Check.TheVariants.{FileSize}
use Rattle.cap_base.specs.declared.reading.FileRefusal.{FileRefusal}
use Rattle.cap_base.specs.declared.reading.FileRefusal.TheVariants as files
use Rattle.cap_base.specs.declared.refusal.Refusal.{Refusal}
use Rattle.cap_base.specs.declared.refusal.Refusal.TheVariants as refusals
use Rattle.purecap.specs.declared.faults.Failure.{Failure}
use Rattle.purecap.specs.declared.faults.Failure.TheVariants.{NoFile, Malformed, Unsupported, Limit, ReadFault, WriteFault, NoMemory, Differs}

-- a file was not read
abbrev pub unread : FileRefusal → Failure
unread files.NoFile = NoFile
unread files.TooLarge = Limit (number_of FileSize)
unread files.Fault = ReadFault
unread files.NoMemory = NoMemory

-- a file fails a check, or memory ran out
abbrev pub IsOfCheck : Refusal → Type 0
IsOfCheck (refusals.Malformed file check at) = Unit {0}
IsOfCheck (refusals.Unsupported file check at) = Unit {0}
IsOfCheck (refusals.Unresolved file symbol) = ⊥
IsOfCheck (refusals.Full asked left) = ⊥
IsOfCheck (refusals.Limit check) = Unit {0}
IsOfCheck refusals.NoMemory = Unit {0}

-- its failure; the other refusals are none of a single file
abbrev pub unaccepted : Refusal → Failure
unaccepted (refusals.Malformed file check at) = Malformed check at
unaccepted (refusals.Unsupported file check at) = Unsupported check at
unaccepted (refusals.Unresolved file symbol) = NoMemory
unaccepted (refusals.Full asked left) = NoMemory
unaccepted (refusals.Limit check) = Limit check
unaccepted refusals.NoMemory = NoMemory

-- the failure is the one that is said here; memory may run out instead
abbrev pub IsFailureOf : {Y : Type 0} → Result Y Failure → Failure → Type 0
IsFailureOf said NoMemory = Unit {0}
IsFailureOf said ReadFault = ⊥
IsFailureOf said WriteFault = ⊥
IsFailureOf said Differs = ⊥
IsFailureOf said failure = said ≡ Err failure
