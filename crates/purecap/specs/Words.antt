-- What the words of the command line ask for. Each command reads its words as `clap` does those of a simple command, and
-- then come the rules of this program.
use Rattle.std.specs.Prelude.{◌<◌, ◌^◌, ℕ, not, List, [], ◌∷◌, codes, Result, Ok, Err, if◌then◌else◌, string_bytes}
use Rattle.std.specs.Str.{bytes_eq}
use Rattle.clap.specs.Simple.{App, new_app, with_rule}
use Rattle.clap.specs.Walk.{Text}
use Rattle.cap_base.specs.Steps.{◌>>=◌, ◌>>◌}
use Rattle.cap_session.specs.Mappings.{IsName}
use Rattle.purecap.specs.declared.faults.Failure.{Failure}
use Rattle.purecap.specs.declared.faults.Failure.TheVariants.{Usage}
use Rattle.purecap.specs.declared.words.Command.{Command as Given}
use Rattle.purecap.specs.declared.words.Command.TheVariants as given
use Rattle.purecap.specs.declared.words.LoadWords.{LoadWords as GivenLoad}
use Rattle.purecap.specs.WordRules.{operand, required_option, parsed, value_of, refuse, is_long, is_path, too_long}
use Rattle.purecap.specs.ProgramWords.{ProgramWords, with_program, program_of, paths_checked, limits_checked, program_meant, IsProgram}
use Rattle.purecap.specs.SlotWords.{slot_of}
use Rattle.purecap.specs.LinkWords.{LinkWords, IsLink, link_meant, link_words}
use Rattle.purecap.specs.DemoWords.{demo_words}

-- what `load` is asked for
pub record LoadWords : Type 0 where
  pub image : List ℕ
  pub program : ProgramWords

-- what the program is asked for
pub data Command : Type 0 where
  Show : List ℕ → Command
  Load : LoadWords → Command
  Link : LinkWords → Command
  Demo : ℕ → Command
  Init : ProgramWords → Command
  Reach : List ℕ → ℕ → Command
  Audit : List ℕ → ProgramWords → Command

-- ---- the command lines

-- `show IMAGE`
unfoldable pub show_app : App
show_app = with_rule (new_app (codes "show")) (operand (codes "image"))

-- `load -o IMAGE [-L DIR] [--first-found] MAIN [CALL...]`
unfoldable pub load_app : App
load_app = with_program (with_rule (new_app (codes "load")) (required_option (codes "image") 0x6f))

-- `init [-L DIR] [--first-found] MAIN [CALL...]`
unfoldable pub init_app : App
init_app = with_program (new_app (codes "init"))

-- `reach IMAGE SLOT`
unfoldable pub reach_app : App
reach_app = with_rule (with_rule (new_app (codes "reach")) (operand (codes "image"))) (operand (codes "slot"))

-- `audit IMAGE [-L DIR] [--first-found] MAIN [CALL...]`
unfoldable pub audit_app : App
audit_app = with_program (with_rule (new_app (codes "audit")) (operand (codes "image")))

-- ---- what words of each command ask for

-- `show` of the image in this file
unfoldable pub show_of : Text → Result Command Failure
show_of image =
    refuse (not (is_path image)) Usage
    >> refuse (is_long image) too_long
    >> Ok (Show image)

-- `load` of this program, into the image of this path
unfoldable pub load_of : LoadWords → Result Command Failure
load_of asked =
    refuse (not (is_path asked.image)) Usage
    >> paths_checked asked.program
    >> refuse (is_long asked.image) too_long
    >> limits_checked asked.program
    >> Ok (Load asked)

-- the initial calls of this program
unfoldable pub init_of : ProgramWords → Result Command Failure
init_of program =
    paths_checked program
    >> limits_checked program
    >> Ok (Init program)

-- what is reached from this slot of the image in this file
unfoldable pub reach_of : Text → Text → Result Command Failure
reach_of image word = do
  refuse (not (is_path image)) Usage
  slot ← slot_of word
  refuse (is_long image) too_long
  Ok (Reach image slot)

-- `audit` of the image in this file, by this program
unfoldable pub audit_of : Text → ProgramWords → Result Command Failure
audit_of image program =
    refuse (not (is_path image)) Usage
    >> paths_checked program
    >> refuse (is_long image) too_long
    >> limits_checked program
    >> Ok (Audit image program)

unfoldable pub show_words : List Text → Result Command Failure
show_words words = do
  rows ← parsed show_app words
  show_of (value_of rows (codes "image"))

unfoldable pub load_words : List Text → Result Command Failure
load_words words = do
  rows ← parsed load_app words
  program ← program_of rows
  load_of (record { image = value_of rows (codes "image"); program = program })

unfoldable pub init_words : List Text → Result Command Failure
init_words words = do
  rows ← parsed init_app words
  program ← program_of rows
  init_of program

unfoldable pub reach_words : List Text → Result Command Failure
reach_words words = do
  rows ← parsed reach_app words
  reach_of (value_of rows (codes "image")) (value_of rows (codes "slot"))

unfoldable pub audit_words : List Text → Result Command Failure
audit_words words = do
  rows ← parsed audit_app words
  program ← program_of rows
  audit_of (value_of rows (codes "image")) program

-- what words of this command ask for
abbrev pub command_by : Text → List Text → Result Command Failure
command_by command words =
    if bytes_eq command (codes "show") then show_words words
    else (if bytes_eq command (codes "load") then load_words words
    else (if bytes_eq command (codes "link") then (link_words words >>= λ asked. Ok (Link asked))
    else (if bytes_eq command (codes "demo") then (demo_words words >>= λ number. Ok (Demo number))
    else (if bytes_eq command (codes "init") then init_words words
    else (if bytes_eq command (codes "reach") then reach_words words
    else (if bytes_eq command (codes "audit") then audit_words words
    else Err Usage))))))

-- what the words ask for: the first names the command, and stands for the program's name before the others
unfoldable pub command_of : List Text → Result Command Failure
command_of [] = Err Usage
command_of (command ∷ words) = command_by command (command ∷ words)

-- ---- the command that the program was given

abbrev pub load_meant : GivenLoad → LoadWords
load_meant words = record { image = string_bytes words.image; program = program_meant words.program }

abbrev pub meaning : Given → Command
meaning (given.Show image) = Show (string_bytes image)
meaning (given.Load words) = Load (load_meant words)
meaning (given.Link words) = Link (link_meant words)
meaning (given.Demo number) = Demo number
meaning (given.Init program) = Init (program_meant program)
meaning (given.Reach image slot) = Reach (string_bytes image) slot
meaning (given.Audit image program) = Audit (string_bytes image) (program_meant program)

-- ---- what holds of each command that is accepted

pub record IsLoad (asked : LoadWords) : Type 0 where
  pub image : IsName asked.image
  pub program : IsProgram asked.program

abbrev pub IsAccepted : Command → Type 0
IsAccepted (Show image) = IsName image
IsAccepted (Load asked) = IsLoad asked
IsAccepted (Link asked) = IsLink asked
IsAccepted (Demo number) = number < 2 ^ 32
IsAccepted (Init program) = IsProgram program
IsAccepted (Reach image slot) = IsName image
IsAccepted (Audit image program) = IsName image × IsProgram program
