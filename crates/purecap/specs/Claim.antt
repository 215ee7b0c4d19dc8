-- The claim of the whole: what `load` promises of the file that it writes. An image is what the format reads in the written
-- bytes, an object is what the bytes of its file say, and a word is what CHERI ISA v9 decodes of its 16 bytes.
use Rattle.std.specs.Prelude.{◌≡◌, ℕ, List, All, Option, IfSome, Some, Result, Ok, Err}
use Rattle.cap_base.specs.Outside.{Store, file_in, with_file}
use Rattle.cap_elf.specs.DynView.{dyn_view}
use Rattle.cap_exact.specs.Loads.{KeepsBounds}
use Rattle.cap_image.specs.Parts.{ImageParts}
use Rattle.cap_image.specs.Reading.{read_image}
use Rattle.cap_loaded.specs.Shown.{ShowsState}
use Rattle.cap_mem.specs.Tagged.{TaggedMemory}
use Rattle.cap_session.specs.Exact.{LieBehind}
use Rattle.cap_session.specs.Loading.{Loaded, fetch_from, records_of}
use Rattle.cap_session.specs.State.{State}
use Rattle.purecap.specs.declared.faults.Failure.{Failure}
use Rattle.purecap.specs.Answer.{program_outcome}
use Rattle.purecap.specs.Exact.{run_of}
use Rattle.purecap.specs.Run.{Disk, Stream, Runs}
use Rattle.purecap.specs.Words.{Command, Show, Load, Link, Demo, Init, Reach, Audit, LoadWords, command_of}

-- a loaded object: its file stands in the store, and its records are what the bytes of the file say
pub record IsOfFile (store : Store) (o : Loaded) : Type 0 where
  pub path : List ℕ
  pub file : file_in store path ≡ Some o.source.bytes
  pub records : dyn_view o.source.bytes ≡ Ok (records_of o)

-- where `load` answered 0 over this store: the words and the files alone decide which objects are loaded, in which order
-- and where; each is that of its file, and their mappings lie one behind another; the file that was written is read as an
-- image, which has the tags, the words and the bytes that the relocations of these objects mean, and no others; and no
-- bounds of a file that a link wrote were refused, and the data of all such files lie apart
pub record Claim (words : LoadWords) (store : Store) (new : Option Store) : Type 0 where
  pub state : State
  pub leads : (program_outcome words.program store).«end» ≡ Ok state
  pub files : All (IsOfFile store) state.objects
  pub behind : LieBehind 0x40000000 state.objects
  pub bytes : List ℕ
  pub written : new ≡ Some (with_file store words.image bytes)
  pub image : ImageParts
  pub reads : read_image bytes ≡ Ok image
  pub shows : ShowsState image (fetch_from store) words.program.dir words.program.main words.program.rule words.program.calls state
  pub exact : KeepsBounds store (run_of words.program)

abbrev pub IsClaimOf : Result Command Failure → Store → Option Store → ℕ → Type 0
IsClaimOf (Ok (Show image)) store new status = Unit {0}
IsClaimOf (Ok (Load words)) store new status = status ≡ 0 → Claim words store new
IsClaimOf (Ok (Link words)) store new status = Unit {0}
IsClaimOf (Ok (Demo number)) store new status = Unit {0}
IsClaimOf (Ok (Init words)) store new status = Unit {0}
IsClaimOf (Ok (Reach image slot)) store new status = Unit {0}
IsClaimOf (Ok (Audit image words)) store new status = Unit {0}
IsClaimOf (Err failure) store new status = Unit {0}

-- the same of a run, where the store told its files before it
abbrev pub IsClaimedRun : Result Command Failure → Option Store → Option Store → ℕ → Type 0
IsClaimedRun command old new status = IfSome old (λ store. IsClaimOf command store new status)

-- of every run
abbrev pub RunsKeepClaim : Type 0
RunsKeepClaim =
    (words : List (List ℕ)) (disk : Disk) (out err : Stream) (kept : List TaggedMemory) (status : ℕ) → Runs words disk out err kept status → IsClaimedRun (command_of words) disk.old disk.new status
