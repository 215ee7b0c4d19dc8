-- Why an object is not loaded.
use Rattle.std.specs.Prelude.{◌≡◌, ℕ, [], Result, Ok, Err}
use Rattle.cap_base.specs.Check.{number_of}
use Rattle.cap_base.specs.declared.check.Check.TheVariants.{FileSize}
use Rattle.cap_base.specs.declared.reading.FileRefusal.{FileRefusal}
use Rattle.cap_base.specs.declared.reading.FileRefusal.TheVariants as files
use Rattle.cap_base.specs.declared.refusal.Refusal.{Refusal}
use Rattle.cap_base.specs.declared.refusal.Refusal.TheVariants as refusals
use Rattle.cap_session.specs.declared.refusal.OpenCause.{OpenCause}
use Rattle.cap_session.specs.declared.refusal.OpenCause.TheVariants.{NoFile, Malformed, Unsupported, Unresolved, Inexact, Full, Limit, ReadFault, NoMemory}
use Rattle.cap_session.specs.Refused.{CauseCounted}

-- the cause that a refused reading gives
abbrev pub file_cause : FileRefusal → OpenCause
file_cause files.NoFile = NoFile
file_cause files.TooLarge = Limit (number_of FileSize)
file_cause files.Fault = ReadFault
file_cause files.NoMemory = NoMemory

-- the cause that a refused file gives, or one for which there is no room
abbrev pub refusal_cause : Refusal → OpenCause
refusal_cause (refusals.Malformed file check at) = Malformed check at
refusal_cause (refusals.Unsupported file check at) = Unsupported check at
refusal_cause (refusals.Unresolved file symbol) = Unresolved []
refusal_cause (refusals.Full asked left) = Full asked left
refusal_cause (refusals.Limit check) = Limit check
refusal_cause refusals.NoMemory = NoMemory

-- a cause is the one that the definition gives; a fault of reading and want of memory may come in its place
abbrev pub IsCausedBy : {T : Type 0} → Result T OpenCause → OpenCause → Type 0
IsCausedBy wanted NoFile = wanted ≡ Err NoFile
IsCausedBy wanted (Malformed check at) = wanted ≡ Err (Malformed check at)
IsCausedBy wanted (Unsupported check at) = wanted ≡ Err (Unsupported check at)
IsCausedBy wanted (Unresolved name) = wanted ≡ Err (Unresolved name)
IsCausedBy wanted (Inexact name base len) = wanted ≡ Err (Inexact name base len)
IsCausedBy wanted (Full asked left) = wanted ≡ Err (Full asked left)
IsCausedBy wanted (Limit check) = wanted ≡ Err (Limit check)
IsCausedBy wanted ReadFault = Unit {0}
IsCausedBy wanted NoMemory = Unit {0}

-- a call gives, seen by view, what the definition gives, or is refused by its cause
abbrev pub Leads : {X T : Type 0} → (X → T) → Result X OpenCause → Result T OpenCause → Type 0
Leads view (Ok x) wanted = wanted ≡ Ok (view x)
Leads view (Err cause) wanted = IsCausedBy wanted cause

-- the count of failed reads, where a call ends so
abbrev pub CountedBy : {T : Type 0} → ℕ → ℕ → Result T OpenCause → Type 0
CountedBy before now (Ok x) = now ≡ before
CountedBy before now (Err cause) = CauseCounted before now cause
