-- Why a call of a session is refused.
use Rattle.std.specs.Prelude.{◌≡◌, ℕ, ◌≤◌, [], Result, Ok, Err}
use Rattle.cap_base.specs.Outside.{Rose}
use Rattle.cap_session.specs.declared.refusal.OpenCause.{OpenCause}
use Rattle.cap_session.specs.declared.refusal.OpenCause.TheVariants.{NoFile, Malformed, Unsupported, Unresolved, Inexact, Full, Limit, ReadFault, NoMemory}
use Rattle.cap_session.specs.declared.refusal.OpenRefusal.{OpenRefusal}

-- a refusal is the one that the definition gives; a fault of reading and want of memory may come in its place, and then
-- nothing is said of it here but that want of memory names no file
abbrev pub IsRefusedBy : {T : Type 0} → Result T OpenRefusal → OpenRefusal → OpenCause → Type 0
IsRefusedBy wanted refusal NoFile = wanted ≡ Err refusal
IsRefusedBy wanted refusal (Malformed check at) = wanted ≡ Err refusal
IsRefusedBy wanted refusal (Unsupported check at) = wanted ≡ Err refusal
IsRefusedBy wanted refusal (Unresolved name) = wanted ≡ Err refusal
IsRefusedBy wanted refusal (Inexact name base len) = wanted ≡ Err refusal
IsRefusedBy wanted refusal (Full asked left) = wanted ≡ Err refusal
IsRefusedBy wanted refusal (Limit check) = wanted ≡ Err refusal
IsRefusedBy wanted refusal ReadFault = Unit {0}
IsRefusedBy wanted refusal NoMemory = refusal.path ≡ []

-- where memory ran out, no file is named
abbrev pub NamesNoFile : OpenRefusal → Type 0
NamesNoFile refusal = refusal.cause ≡ NoMemory → refusal.path ≡ []

-- the count of failed reads: at a fault it rose, or stands at its last value; it may have risen where memory ran out, and
-- else stays
abbrev pub CauseCounted : ℕ → ℕ → OpenCause → Type 0
CauseCounted before now NoFile = now ≡ before
CauseCounted before now (Malformed check at) = now ≡ before
CauseCounted before now (Unsupported check at) = now ≡ before
CauseCounted before now (Unresolved name) = now ≡ before
CauseCounted before now (Inexact name base len) = now ≡ before
CauseCounted before now (Full asked left) = now ≡ before
CauseCounted before now (Limit check) = now ≡ before
CauseCounted before now ReadFault = (before ≤ now) × Rose before now
CauseCounted before now NoMemory = before ≤ now

abbrev pub ReadsCounted : {T : Type 0} → ℕ → ℕ → Result T OpenRefusal → Type 0
ReadsCounted before now (Ok x) = now ≡ before
ReadsCounted before now (Err refusal) = CauseCounted before now refusal.cause
