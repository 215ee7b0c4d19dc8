-- What a run leaves, and the causes of its answers.
use Rattle.std.specs.Prelude.{◌≡◌, ◌≢◌, ◌<◌, ◌≤◌, ◌⊎◌, ℕ, Bool, List, [], ◌∷◌, ◌++◌, map, flat_map, codes, Option, Some, None, IfSome, Result, Ok, Err}
use Rattle.std.specs.Io.KnownBytes.{Appends}
use Rattle.cap_base.specs.Outside.{Store, file_in, with_file, Rose, AppendsFront}
use Rattle.cap_base.specs.SaveFile.{WritesFront}
use Rattle.cap_mem.specs.Tagged.{TaggedMemory}
use Rattle.cap_image.specs.Parts.{ImageParts}
use Rattle.cap_image.specs.Writing.{image_of, image_bytes}
use Rattle.cap_init.specs.declared.call.Call.{Call}
use Rattle.cap_session.specs.declared.refusal.OpenRefusal.{OpenRefusal}
use Rattle.purecap.specs.declared.faults.Failure.{Failure}
use Rattle.purecap.specs.declared.faults.Failure.TheVariants.{Usage, Limit, ReadFault, WriteFault, NoMemory, Differs}
use Rattle.purecap.specs.Faults.{failure_of, status_of, line_of}
use Rattle.purecap.specs.ProgramWords.{ProgramWords}
use Rattle.purecap.specs.Words.{Command, Show, Load, Link, Demo, Init, Reach, Audit, LoadWords, command_of}
use Rattle.purecap.specs.LinkWords.{LinkWords}
use Rattle.purecap.specs.Linking.{Found, found_in, link_story}
use Rattle.purecap.specs.Initial.{calls_report}
use Rattle.purecap.specs.Story.{Product, Printed, Saved, Differing, Stop, stop_at, Story, stopped}
use Rattle.purecap.specs.Images.{image_in}
use Rattle.purecap.specs.Answer.{show_story, load_story, demo_story, init_story, reach_story, audit_story, compared, note_lines, lines_before, Answer, answer_to}

-- a count of faults, before a run and after it
pub record Count : Type 0 where
  pub before : ℕ
  pub now : ℕ

-- a sink, before a run and after it: what it told, and its count of faults
pub record Stream : Type 0 where
  pub old : Option (List ℕ)
  pub new : Option (List ℕ)
  pub faults : Count

-- a store, before a run and after it: its files, the file that is being written, and its counts of faults
pub record Disk : Type 0 where
  pub old : Option Store
  pub new : Option Store
  pub old_writing : Option (List ℕ × List ℕ)
  pub writing : Option (List ℕ × List ℕ)
  pub reads : Count
  pub writes : Count

abbrev pub counted : ℕ → ℕ → Count
counted before now = record { before = before; now = now }

abbrev pub streamed : Option (List ℕ) → Option (List ℕ) → ℕ → ℕ → Stream
streamed old new before now = record { old = old; new = new; faults = counted before now }

abbrev pub stored : Option Store → Option Store → Option (List ℕ × List ℕ) → Option (List ℕ × List ℕ) → Count → Count → Disk
stored old new old_writing writing reads writes =
    record { old = old; new = new; old_writing = old_writing; writing = writing; reads = reads; writes = writes }

-- the count is as before
abbrev pub IsKept : Count → Type 0
IsKept count = count.now ≡ count.before

-- the count rose, or stands at its last value
abbrev pub HasRisen : Count → Type 0
HasRisen count = Rose count.before count.now

-- nothing was written, and no write failed
pub record IsStill (out : Stream) : Type 0 where
  pub bytes : out.new ≡ out.old
  pub count : IsKept out.faults

-- these bytes were written
pub record IsWritten (out : Stream) (bytes : List ℕ) : Type 0 where
  pub appended : Appends out.old out.new bytes
  pub count : IsKept out.faults

-- a front of these bytes was written, and then a write failed
pub record IsCut (out : Stream) (bytes : List ℕ) : Type 0 where
  pub front : AppendsFront out.old out.new bytes
  pub rose : HasRisen out.faults

-- these bytes were written, or a front of them and then a write failed
abbrev pub Outputs : Stream → List ℕ → Result Unit Failure → Type 0
Outputs out bytes (Ok _) = IsWritten out bytes
Outputs out bytes (Err failure) = (failure ≡ WriteFault) × IsCut out bytes

-- these lines were written, or a front of them where a write failed; where there is none, nothing was
abbrev pub Says : Stream → List (List ℕ) → Type 0
Says err [] = IsStill err
Says err (line ∷ lines) = IsWritten err (line ++ flat_map (λ l. l) lines) ⊎ IsCut err (line ++ flat_map (λ l. l) lines)

-- no file was created, and no write failed
pub record IsUntouched (disk : Disk) : Type 0 where
  pub files : disk.new ≡ disk.old
  pub writing : disk.writing ≡ disk.old_writing
  pub count : IsKept disk.writes

-- the store has one file more, where it tells its files
pub record IsEntered (disk : Disk) (name bytes : List ℕ) : Type 0 where
  pub files : IfSome disk.old (λ store. (disk.new ≡ Some (with_file store name bytes)) × (disk.writing ≡ None))
  pub count : IsKept disk.writes

-- the store has the files that it had; what is being written, if anything, is a front of the bytes under this name
pub record IsBroken (disk : Disk) (name bytes : List ℕ) : Type 0 where
  pub files : IfSome disk.old (λ store. (disk.new ≡ Some store) × WritesFront disk.writing name bytes)
  pub rose : HasRisen disk.writes

-- nothing was created or written, and nothing is kept
pub record IsNothing (disk : Disk) (out : Stream) (kept : List TaggedMemory) : Type 0 where
  pub untouched : IsUntouched disk
  pub still : IsStill out
  pub none : kept ≡ []

-- the product was given whole, and it is what was wanted
abbrev pub IsGiven : Product → Disk → Stream → List TaggedMemory → Type 0
IsGiven (Printed output) disk out kept = IsUntouched disk × IsWritten out output × (kept ≡ [])
IsGiven (Saved name bytes memories) disk out kept = IsEntered disk name bytes × IsStill out × (kept ≡ memories)
IsGiven (Differing path output) disk out kept = ⊥

-- a front of the product was given, and then a write failed
abbrev pub IsGivenPart : Product → Disk → Stream → List TaggedMemory → Type 0
IsGivenPart (Printed output) disk out kept = IsUntouched disk × IsCut out output × (kept ≡ [])
IsGivenPart (Saved name bytes memories) disk out kept = IsBroken disk name bytes × IsStill out × (kept ≡ [])
IsGivenPart (Differing path output) disk out kept = IsUntouched disk × IsCut out output × (kept ≡ [])

-- where a product goes: standard output is `-`
abbrev pub target_of : Product → List ℕ
target_of (Printed output) = codes "-"
target_of (Saved name bytes memories) = name
target_of (Differing path output) = codes "-"

-- the story came to its end
pub record IsDone (story : Story) (disk : Disk) (out err : Stream) (kept : List TaggedMemory) : Type 0 where
  pub product : Product
  pub defined : story.«end» ≡ Ok product
  pub given : IsGiven product disk out kept
  pub says : Says err (note_lines story.notes)
  pub reads_kept : IsKept disk.reads

-- the story came to its end: it was printed how an image differs
pub record IsDifferent (story : Story) (disk : Disk) (out err : Stream) (kept : List TaggedMemory) : Type 0 where
  pub path : List ℕ
  pub output : List ℕ
  pub defined : story.«end» ≡ Ok (Differing path output)
  pub untouched : IsUntouched disk
  pub written : IsWritten out output
  pub none : kept ≡ []
  pub says : Says err (lines_before story.notes path Differs)
  pub reads_kept : IsKept disk.reads

-- a write failed at its end
pub record IsCutShort (story : Story) (disk : Disk) (out err : Stream) (kept : List TaggedMemory) : Type 0 where
  pub product : Product
  pub defined : story.«end» ≡ Ok product
  pub given : IsGivenPart product disk out kept
  pub says : Says err (lines_before story.notes (target_of product) WriteFault)
  pub reads_kept : IsKept disk.reads

-- the story ends with this failure
pub record IsRefused (story : Story) (failure : Failure) (disk : Disk) (out err : Stream) (kept : List TaggedMemory) : Type 0 where
  pub path : List ℕ
  pub defined : story.«end» ≡ Err (stop_at path failure)
  pub nothing : IsNothing disk out kept
  pub says : Says err (lines_before story.notes path failure)
  pub reads_kept : IsKept disk.reads

-- a read failed, behind the calls with these notes
pub record IsUnread (story : Story) (disk : Disk) (out err : Stream) (kept : List TaggedMemory) : Type 0 where
  pub told : List OpenRefusal
  pub later : List OpenRefusal
  pub notes : story.notes ≡ told ++ later
  pub path : List ℕ
  pub nothing : IsNothing disk out kept
  pub says : Says err (lines_before told path ReadFault)
  pub rose : HasRisen disk.reads

-- memory ran out, behind the calls with these notes
pub record IsStarved (story : Story) (disk : Disk) (out err : Stream) (kept : List TaggedMemory) : Type 0 where
  pub told : List OpenRefusal
  pub later : List OpenRefusal
  pub notes : story.notes ≡ told ++ later
  pub nothing : IsNothing disk out kept
  pub says : Says err (lines_before told [] NoMemory)
  pub reads_later : disk.reads.before ≤ disk.reads.now

-- how a command ends of which this is the story: as the story does, unless a count rose or memory ran out
abbrev pub EndsAs : Story → Disk → Stream → Stream → List TaggedMemory → Result Unit Failure → Type 0
EndsAs story disk out err kept (Ok _) = IsDone story disk out err kept
EndsAs story disk out err kept (Err ReadFault) = IsUnread story disk out err kept
EndsAs story disk out err kept (Err WriteFault) = IsCutShort story disk out err kept
EndsAs story disk out err kept (Err NoMemory) = IsStarved story disk out err kept
EndsAs story disk out err kept (Err Differs) = IsDifferent story disk out err kept
EndsAs story disk out err kept (Err failure) = IsRefused story failure disk out err kept

-- the count of failed reads is as before where memory ran out
abbrev pub IsCalm : Count → Result Unit Failure → Type 0
IsCalm reads end = end ≡ Err NoMemory → IsKept reads

-- how `show` ends, whether the store tells its files or not: there is something that it has under the name of the image,
-- or nothing, and that decides
pub record Shows (image : List ℕ) (disk : Disk) (out err : Stream) (kept : List TaggedMemory) (end : Result Unit Failure) : Type 0 where
  pub file : Option (List ℕ)
  pub is_file : IfSome disk.old (λ store. file ≡ file_in store image)
  pub ends : EndsAs (show_story image file) disk out err kept end
  pub calm : IsCalm disk.reads end

-- how `reach` ends: the same
pub record Reaches (image : List ℕ) (slot : ℕ) (disk : Disk) (out err : Stream) (kept : List TaggedMemory) (end : Result Unit Failure) : Type 0 where
  pub file : Option (List ℕ)
  pub is_file : IfSome disk.old (λ store. file ≡ file_in store image)
  pub ends : EndsAs (reach_story image slot file) disk out err kept end
  pub calm : IsCalm disk.reads end

-- what a command can come to that loads a program: such a product, or the refusal of a start or a call
abbrev pub IsEndOf : (Product → Type 0) → Result Product Stop → Type 0
IsEndOf IsProduct (Ok product) = IsProduct product
IsEndOf IsProduct (Err stop) = (refusal : OpenRefusal) × (stop ≡ stop_at refusal.path (failure_of refusal.cause))

-- the product of `load`: a file of this name that is the image of the memories
abbrev pub IsImageFile : List ℕ → Product → Type 0
IsImageFile image (Printed output) = ⊥
IsImageFile image (Saved name bytes memories) =
    (name ≡ image) × ((names : List (List ℕ × Bool)) × (symbols : List (List (List ℕ × Bool))) × (bytes ≡ image_bytes (image_of names symbols memories)))
IsImageFile image (Differing path output) = ⊥

-- how `load` ends: where the store tells its files, as these lead it
pub record Loads (words : LoadWords) (disk : Disk) (out err : Stream) (kept : List TaggedMemory) (end : Result Unit Failure) : Type 0 where
  pub story : Story
  pub is_story : IfSome disk.old (λ store. story ≡ load_story words store)
  pub loaded : IsEndOf (IsImageFile words.image) story.«end»
  pub ends : EndsAs story disk out err kept end

-- the product of `init`: calls that are printed
abbrev pub IsCallList : Product → Type 0
IsCallList (Printed output) = (names : List (List ℕ)) × ((calls : List Call) × (output ≡ calls_report names calls))
IsCallList (Saved name bytes memories) = ⊥
IsCallList (Differing path output) = ⊥

-- how `init` ends: where the store tells its files, as these lead it
pub record Inits (words : ProgramWords) (disk : Disk) (out err : Stream) (kept : List TaggedMemory) (end : Result Unit Failure) : Type 0 where
  pub story : Story
  pub is_story : IfSome disk.old (λ store. story ≡ init_story words store)
  pub called : IsEndOf IsCallList story.«end»
  pub ends : EndsAs story disk out err kept end

-- the product of `audit`, of this image: how it differs from some image that is wanted
abbrev pub IsComparison : List ℕ → ImageParts → Product → Type 0
IsComparison image given product = (wanted : ImageParts) × (product ≡ compared image given wanted)

-- the same of a file: it may be no image, for this failure
abbrev pub IsAudited : List ℕ → Result ImageParts Failure → Story → Type 0
IsAudited image (Ok given) story = IsEndOf (IsComparison image given) story.«end»
IsAudited image (Err failure) story = story ≡ stopped image failure

-- how `audit` ends: there is something that the store has under the name of the image, or nothing; and where the store
-- tells its files, these lead it
pub record Audits (image : List ℕ) (words : ProgramWords) (disk : Disk) (out err : Stream) (kept : List TaggedMemory) (end : Result Unit Failure) : Type 0 where
  pub file : Option (List ℕ)
  pub story : Story
  pub is_story : IfSome disk.old (λ store. (file ≡ file_in store image) × (story ≡ audit_story image words file store))
  pub audited : IsAudited image (image_in file) story
  pub ends : EndsAs story disk out err kept end

-- what a store has under these words, where it tells its files
pub record AreFound (told : Option Store) (words : List (List ℕ)) (found : List Found) : Type 0 where
  pub words_are : map (λ f. f.0) found ≡ words
  pub files_are : IfSome told (λ store. found ≡ map (found_in store) words)

-- how `link` ends, whether the store tells its files or not: there is something that it has under each word, or nothing,
-- and that decides
pub record Links (words : LinkWords) (disk : Disk) (out err : Stream) (kept : List TaggedMemory) (end : Result Unit Failure) : Type 0 where
  pub found : List Found
  pub are_found : AreFound disk.old words.inputs found
  pub ends : EndsAs (link_story words found) disk out err kept end
  pub calm : IsCalm disk.reads end

-- how `demo` ends: its number decides, and no file of the store is read
pub record Demos (number : ℕ) (disk : Disk) (out err : Stream) (kept : List TaggedMemory) (end : Result Unit Failure) : Type 0 where
  pub ends : EndsAs (demo_story number) disk out err kept end
  pub reads_kept : IsKept disk.reads

-- a failure of the words alone
abbrev pub IsOfWords : Failure → Type 0
IsOfWords Usage = Unit {0}
IsOfWords (Limit check) = Unit {0}
IsOfWords failure = ⊥

-- how a run ends whose words are no command: it touches nothing
pub record Fails (failure : Failure) (disk : Disk) (out err : Stream) (kept : List TaggedMemory) (end : Result Unit Failure) : Type 0 where
  pub is_end : ((end ≡ Err failure) × IsOfWords failure) ⊎ (end ≡ Err NoMemory)
  pub ends : EndsAs (stopped [] failure) disk out err kept end
  pub calm : IsCalm disk.reads end

-- how a run ends: as its command does
abbrev pub Ends : Result Command Failure → Disk → Stream → Stream → List TaggedMemory → Result Unit Failure → Type 0
Ends (Ok (Show image)) disk out err kept end = Shows image disk out err kept end
Ends (Ok (Load words)) disk out err kept end = Loads words disk out err kept end
Ends (Ok (Link words)) disk out err kept end = Links words disk out err kept end
Ends (Ok (Demo number)) disk out err kept end = Demos number disk out err kept end
Ends (Ok (Init words)) disk out err kept end = Inits words disk out err kept end
Ends (Ok (Reach image slot)) disk out err kept end = Reaches image slot disk out err kept end
Ends (Ok (Audit image words)) disk out err kept end = Audits image words disk out err kept end
Ends (Err failure) disk out err kept end = Fails failure disk out err kept end

abbrev pub end_status : Result Unit Failure → ℕ
end_status (Ok _) = 0
end_status (Err failure) = status_of failure

-- a run, over any store and any sinks: it ends in one way, which its status, the store, standard output, the error output
-- and the memories that are kept show
pub record Runs (words : List (List ℕ)) (disk : Disk) (out err : Stream) (kept : List TaggedMemory) (status : ℕ) : Type 0 where
  pub end : Result Unit Failure
  pub is_status : status ≡ end_status end
  pub ends : Ends (command_of words) disk out err kept end

-- the store with the file of an answer, if it has one
abbrev pub with_answer : Store → Option (List ℕ × List ℕ) → Store
with_answer store None = store
with_answer store (Some file) = with_file store file.0 file.1

-- a run over this store gave this answer
pub record Gave (answer : Answer) (store : Store) (disk : Disk) (out err : Stream) (kept : List TaggedMemory) (status : ℕ) : Type 0 where
  pub is_status : status ≡ answer.status
  pub written : IsWritten out answer.output
  pub says : Says err (answer.notes ++ answer.last)
  pub files : disk.new ≡ Some (with_answer store answer.file)
  pub writes : IsKept disk.writes
  pub memories : kept ≡ answer.kept

-- a run was to give this answer, and a write failed: the store has the files that it had
pub record IsHalf (answer : Answer) (store : Store) (disk : Disk) (out err : Stream) (kept : List TaggedMemory) (status : ℕ) : Type 0 where
  pub is_status : status ≡ 11
  pub succeeds : (answer.status ≡ 0) ⊎ (answer.status ≡ 15)
  pub rose : HasRisen out.faults ⊎ HasRisen disk.writes
  pub front : AppendsFront out.old out.new answer.output
  pub files : disk.new ≡ Some store
  pub writing : (disk.writing ≡ disk.old_writing) ⊎ ((name bytes : List ℕ) × (answer.file ≡ Some (name, bytes)) × WritesFront disk.writing name bytes)
  pub path : List ℕ
  pub says : Says err (answer.notes ++ line_of path WriteFault ∷ [])
  pub memories : kept ≡ []

-- over a store that tells its files, where no read failed and memory did not run out, a run gives the defined answer; it
-- may only be cut short, where the count of its output rose
abbrev pub Answers : List (List ℕ) → Disk → Stream → Stream → List TaggedMemory → ℕ → Type 0
Answers words disk out err kept status =
    IfSome disk.old (λ store. (HasRisen disk.reads → ⊥) → status ≢ 12
    → Gave (answer_to words store) store disk out err kept status ⊎ IsHalf (answer_to words store) store disk out err kept status)

-- the count of the output to which a command writes
abbrev pub output_count : Result Command Failure → Disk → Stream → Count
output_count (Ok (Load words)) disk out = disk.writes
output_count (Ok (Link words)) disk out = disk.writes
output_count command disk out = out.faults

-- it keeps no memories and passes over nothing
abbrev pub IsPlain : Disk → Stream → List TaggedMemory → ℕ → Type 0
IsPlain disk err kept status = (kept ≡ []) × (status ≡ 0 → IsStill err) × (status ≡ 12 → IsKept disk.reads)

-- `load` and `link` alone write a file, and they print nothing; `load` alone keeps memories; `load`, `init` and `audit`
-- alone pass over refusals; `demo` reads no file
abbrev pub IsAside : Result Command Failure → Disk → Stream → Stream → List TaggedMemory → ℕ → Type 0
IsAside (Ok (Load words)) disk out err kept status = IsStill out
IsAside (Ok (Link words)) disk out err kept status = IsStill out × IsPlain disk err kept status
IsAside (Ok (Demo number)) disk out err kept status = IsUntouched disk × IsKept disk.reads × IsPlain disk err kept status
IsAside (Ok (Init words)) disk out err kept status = IsUntouched disk × (kept ≡ [])
IsAside (Ok (Audit image words)) disk out err kept status = IsUntouched disk × (kept ≡ [])
IsAside command disk out err kept status = IsUntouched disk × IsPlain disk err kept status

abbrev pub IsReach : Result Command Failure → Type 0
IsReach (Ok (Reach image slot)) = Unit {0}
IsReach command = ⊥

abbrev pub IsAudit : Result Command Failure → Type 0
IsAudit (Ok (Audit image words)) = Unit {0}
IsAudit command = ⊥

-- the causes of the answers, over any store and any sinks
pub record HasCauses (words : List (List ℕ)) (disk : Disk) (out err : Stream) (kept : List TaggedMemory) (status : ℕ) : Type 0 where
  -- the words alone decide these; memory may run out instead
  pub usage : status ≡ 2 → command_of words ≡ Err Usage
  pub is_usage : command_of words ≡ Err Usage → (status ≡ 2) ⊎ (status ≡ 12)
  pub is_limit : (check : ℕ) → command_of words ≡ Err (Limit check) → (status ≡ 9) ⊎ (status ≡ 12)
  -- a read fault has its count, and where the count rose it is the answer, or want of memory
  pub read_fault : status ≡ 10 → HasRisen disk.reads
  pub read_rose : disk.reads.before < disk.reads.now → (status ≡ 10) ⊎ (status ≡ 12)
  -- a write fault has its count, and where the count rose it is the answer
  pub write_fault : status ≡ 11 → HasRisen (output_count (command_of words) disk out)
  pub write_rose : (output_count (command_of words) disk out).before < (output_count (command_of words) disk out).now → status ≡ 11
  -- `reach` alone tells of a slot without a tagged word, and `audit` alone of an image that differs
  pub no_word : status ≡ 14 → IsReach (command_of words)
  pub differs : status ≡ 15 → IsAudit (command_of words)
  -- no command touches the output of another
  pub aside : IsAside (command_of words) disk out err kept status
  -- nothing is created or written to standard output by other answers than 0, 11 and 15, and nothing is kept but with 0
  pub quiet : status ≢ 0 → status ≢ 11 → status ≢ 15 → IsNothing disk out kept
  pub none_kept : status ≢ 0 → kept ≡ []
