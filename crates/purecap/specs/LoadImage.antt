-- What `audit` and `init` say of the image that `load` would write.
use Rattle.std.specs.Prelude.{◌≡◌, ℕ, ◌-◌, ◌^◌, true, List, All, Option, IfSome, Result, Ok, Err}
use Rattle.cap_base.specs.Outside.{Store, file_in}
use Rattle.cap_mem.specs.Held.{fields_in}
use Rattle.cap_mem.specs.Tagged.{TaggedMemory}
use Rattle.cap_image.specs.Accepted.{AreBytes}
use Rattle.cap_image.specs.Granules.{is_tagged_at, object_at}
use Rattle.cap_image.specs.Parts.{ImageParts}
use Rattle.cap_image.specs.Writing.{image_bytes}
use Rattle.cap_init.specs.declared.call.Call.{Call}
use Rattle.cap_loaded.specs.Images.{state_image}
use Rattle.cap_session.specs.State.{State}
use Rattle.purecap.specs.declared.faults.Failure.{Failure}
use Rattle.purecap.specs.Answer.{program_outcome}
use Rattle.purecap.specs.Initial.{initial_calls, initial_text}
use Rattle.purecap.specs.ProgramWords.{ProgramWords}
use Rattle.purecap.specs.Run.{Disk, Stream, IsWritten, Runs}
use Rattle.purecap.specs.Words.{Command, Show, Load, Link, Demo, Init, Reach, Audit, command_of}

-- the bytes are the image of the program and its calls over these files
pub record IsImageOf (words : ProgramWords) (store : Store) (bytes : List ℕ) : Type 0 where
  pub state : State
  pub leads : (program_outcome words store).«end» ≡ Ok state
  pub bytes_are : bytes ≡ image_bytes (state_image state)

-- `audit` answers 0 of bytes that are the image, and 15 of others
pub record TellsImage (words : ProgramWords) (store : Store) (bytes : List ℕ) (status : ℕ) : Type 0 where
  pub same : status ≡ 0 → IsImageOf words store bytes
  pub other : status ≡ 15 → IsImageOf words store bytes → ⊥

-- of a file, whose numbers are bytes
abbrev pub AuditsImage : List ℕ → ProgramWords → Store → ℕ → Type 0
AuditsImage image words store status = IfSome (file_in store image) (λ bytes. AreBytes bytes → TellsImage words store bytes status)

-- the granule of a call is tagged in an image, and the word there decodes to a sealed entry (CHERI's sentry, object type
-- -2 of 18 bits) at which the call begins
pub record IsEntry (image : ImageParts) (call : Call) : Type 0 where
  pub tagged : is_tagged_at image call.slot ≡ true
  pub sealed : (fields_in (object_at image call.slot).bytes (call.slot - (object_at image call.slot).base)).otype ≡ 2 ^ 18 - 2
  pub cursor : (fields_in (object_at image call.slot).bytes (call.slot - (object_at image call.slot).base)).cursor ≡ call.cursor

-- the initial calls were printed, and each is an entry of the image
pub record PrintsEntries (words : ProgramWords) (store : Store) (out : Stream) : Type 0 where
  pub state : State
  pub leads : (program_outcome words store).«end» ≡ Ok state
  pub entries : All (IsEntry (state_image state)) (initial_calls state)
  pub written : IsWritten out (initial_text state)

-- what a command says of the image, by its status and what it printed
abbrev pub SpeaksOfImage : Result Command Failure → Store → Stream → ℕ → Type 0
SpeaksOfImage (Ok (Show image)) store out status = Unit {0}
SpeaksOfImage (Ok (Load words)) store out status = Unit {0}
SpeaksOfImage (Ok (Link words)) store out status = Unit {0}
SpeaksOfImage (Ok (Demo number)) store out status = Unit {0}
SpeaksOfImage (Ok (Init words)) store out status = status ≡ 0 → PrintsEntries words store out
SpeaksOfImage (Ok (Reach image slot)) store out status = Unit {0}
SpeaksOfImage (Ok (Audit image words)) store out status = AuditsImage image words store status
SpeaksOfImage (Err failure) store out status = Unit {0}

-- the same of a run, where the store tells its files
abbrev pub IsImageRun : Result Command Failure → Option Store → Stream → ℕ → Type 0
IsImageRun command told out status = IfSome told (λ store. SpeaksOfImage command store out status)

-- of every run
abbrev pub RunsTellImages : Type 0
RunsTellImages =
    (words : List (List ℕ)) (disk : Disk) (out err : Stream) (kept : List TaggedMemory) (status : ℕ) → Runs words disk out err kept status → IsImageRun (command_of words) disk.old out status
