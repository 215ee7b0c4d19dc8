-- What the program answers to its words, over the files of a store.
use Rattle.std.specs.Prelude.{ℕ, List, [], ◌∷◌, ◌++◌, map, Option, Some, None, Result, Ok, Err}
use Rattle.cap_base.specs.Outside.{Store, file_in}
use Rattle.cap_base.specs.Steps.{◌>>=◌}
use Rattle.cap_mem.specs.Tagged.{TaggedMemory}
use Rattle.cap_image.specs.Parts.{ImageParts}
use Rattle.cap_image.specs.Writing.{image_bytes}
use Rattle.cap_audit.specs.declared.finding.Finding.{Finding}
use Rattle.cap_audit.specs.Findings.{findings}
use Rattle.cap_audit.specs.Report.{report_of as findings_report}
use Rattle.cap_session.specs.declared.refusal.OpenRefusal.{OpenRefusal}
use Rattle.cap_loaded.specs.Images.{state_image}
use Rattle.cap_session.specs.Loading.{fetch_from}
use Rattle.cap_session.specs.State.{State, memories_of}
use Rattle.cap_session.specs.Calls.{Outcome, outcome_of}
use Rattle.purecap.specs.declared.faults.Failure.{Failure}
use Rattle.purecap.specs.declared.faults.Failure.TheVariants.{Differs}
use Rattle.purecap.specs.Faults.{failure_of, refusal_line, status_of, line_of}
use Rattle.purecap.specs.ProgramWords.{ProgramWords}
use Rattle.purecap.specs.Words.{Command, Show, Load, Link, Demo, Init, Reach, Audit, LoadWords, command_of}
use Rattle.purecap.specs.Images.{image_in, shown, reached}
use Rattle.purecap.specs.Story.{Product, Printed, Saved, Differing, Stop, stop_at, Story, stopped}
use Rattle.purecap.specs.Initial.{initial_text}
use Rattle.purecap.specs.Linking.{found_in, link_story}
use Rattle.purecap.specs.Demo.{demo_linked, demo_started, demo_opened, summary_of}

-- `show`, or `reach`, that prints this text
abbrev pub printed : List ℕ → Result (List ℕ) Failure → Story
printed path (Ok report) = record { notes = []; «end» = Ok (Printed report) }
printed path (Err failure) = stopped path failure

-- `show` of an image, of which the store has this
abbrev pub show_story : List ℕ → Option (List ℕ) → Story
show_story image file = printed image (shown file)

-- `reach` from a slot of an image, of which the store has this
abbrev pub reach_story : List ℕ → ℕ → Option (List ℕ) → Story
reach_story image slot file = printed image (reached slot file)

-- what a program and its libraries come to over a store, once the calls were made
abbrev pub program_outcome : ProgramWords → Store → Outcome
program_outcome words store = outcome_of (fetch_from store) words.dir words.main words.rule words.calls

-- what a command makes of the state to which a start and calls lead, or the refusal of one of these
abbrev pub ended_by : (State → Product) → Result State OpenRefusal → Result Product Stop
ended_by product (Ok state) = Ok (product state)
ended_by product (Err refusal) = Err (stop_at refusal.path (failure_of refusal.cause))

-- the story of a command that makes this of the state to which its start and calls lead
abbrev pub story_by : (State → Product) → Outcome → Story
story_by product outcome = record { notes = outcome.notes; «end» = ended_by product outcome.«end» }

-- `load`: the image of the state
abbrev pub saved : List ℕ → State → Product
saved image state = Saved image (image_bytes (state_image state)) (memories_of state)

abbrev pub load_story : LoadWords → Store → Story
load_story words store = story_by (saved words.image) (program_outcome words.program store)

-- `init`: the initial calls of the state
abbrev pub called : State → Product
called state = Printed (initial_text state)

abbrev pub init_story : ProgramWords → Store → Story
init_story words store = story_by called (program_outcome words store)

-- `audit`: where an image is not the one that is wanted
abbrev pub compared_by : List ℕ → List Finding → Product
compared_by image [] = Printed (findings_report [])
compared_by image (finding ∷ others) = Differing image (findings_report (finding ∷ others))

abbrev pub compared : List ℕ → ImageParts → ImageParts → Product
compared image given wanted = compared_by image (findings given wanted)

-- the same of a file, which may be no image
abbrev pub audit_by : List ℕ → Result ImageParts Failure → Outcome → Story
audit_by image (Ok given) outcome = story_by (λ state. compared image given (state_image state)) outcome
audit_by image (Err failure) outcome = stopped image failure

abbrev pub audit_story : List ℕ → ProgramWords → Option (List ℕ) → Store → Story
audit_story image words file store = audit_by image (image_in file) (program_outcome words store)

-- the summary of what the objects of a number are linked to, once it is loaded
unfoldable pub demo_text : ℕ → Result (List ℕ) Stop
demo_text number = do
  store ← demo_linked number
  first ← demo_started store
  state ← demo_opened store first
  Ok (summary_of number (state_image state))

-- `demo`, of this summary
abbrev pub summed : Result (List ℕ) Stop → Result Product Stop
summed (Ok text) = Ok (Printed text)
summed (Err stop) = Err stop

abbrev pub demo_story : ℕ → Story
demo_story number = record { notes = []; «end» = summed (demo_text number) }

-- the story of a command; words that are no command name no file
abbrev pub command_story : Result Command Failure → Store → Story
command_story (Ok (Show image)) store = show_story image (file_in store image)
command_story (Ok (Load words)) store = load_story words store
command_story (Ok (Link words)) store = link_story words (map (found_in store) words.inputs)
command_story (Ok (Demo number)) store = demo_story number
command_story (Ok (Init words)) store = init_story words store
command_story (Ok (Reach image slot)) store = reach_story image slot (file_in store image)
command_story (Ok (Audit image words)) store = audit_story image words (file_in store image) store
command_story (Err failure) store = stopped [] failure

-- an answer: the status, the bytes for standard output, the lines for the error output, of which the first are those of
-- refusals that were passed over, the file that is entered in the store, and the memories that are kept
pub record Answer : Type 0 where
  pub status : ℕ
  pub output : List ℕ
  pub notes : List (List ℕ)
  pub last : List (List ℕ)
  pub file : Option (List ℕ × List ℕ)
  pub kept : List TaggedMemory

-- the lines of refusals that were passed over
abbrev pub note_lines : List OpenRefusal → List (List ℕ)
note_lines notes = map refusal_line notes

-- the same, and then the line of a failure
abbrev pub lines_before : List OpenRefusal → List ℕ → Failure → List (List ℕ)
lines_before notes path failure = note_lines notes ++ line_of path failure ∷ []

-- a success
abbrev pub success : List OpenRefusal → List ℕ → Option (List ℕ × List ℕ) → List TaggedMemory → Answer
success notes output file kept = record { status = 0; output = output; notes = note_lines notes; last = []; file = file; kept = kept }

-- a failure, and what it says on standard output
abbrev pub failed : List OpenRefusal → List ℕ → List ℕ → Failure → Answer
failed notes output path failure =
    record { status = status_of failure; output = output; notes = note_lines notes; last = line_of path failure ∷ []; file = None; kept = [] }

-- the answer of a story that ends so: with bytes, with a file, with bytes that say how an image differs, or with a failure
abbrev pub answer_by : List OpenRefusal → Result Product Stop → Answer
answer_by notes (Ok (Printed output)) = success notes output None []
answer_by notes (Ok (Saved name bytes memories)) = success notes [] (Some (name, bytes)) memories
answer_by notes (Ok (Differing path output)) = failed notes output path Differs
answer_by notes (Err stop) = failed notes [] stop.path stop.failure

abbrev pub answer_of : Story → Answer
answer_of story = answer_by story.notes story.«end»

-- what the program answers to these words, over the files of this store
abbrev pub answer_to : List (List ℕ) → Store → Answer
answer_to words store = answer_of (command_story (command_of words) store)
