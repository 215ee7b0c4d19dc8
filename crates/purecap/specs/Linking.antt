-- What `link` comes to, by its words and by what a store has under them.
use Rattle.std.specs.Prelude.{ℕ, ◌+◌, ◌^◌, nat_lt, List, [], ◌∷◌, ◌++◌, length, slice_get, Option, Some, None, unwrap_or, Result, Ok, Err, if◌then◌else◌}
use Rattle.cap_base.specs.Check.{number_of}
use Rattle.cap_base.specs.Outside.{Store, file_in}
use Rattle.cap_base.specs.Steps.{◌>>=◌, steps}
use Rattle.cap_base.specs.declared.check.Check.TheVariants.{FileSize, InputSize}
use Rattle.cap_base.specs.declared.kind.Kind.{Kind}
use Rattle.cap_base.specs.declared.kind.Kind.TheVariants as kinds
use Rattle.cap_base.specs.declared.refusal.Refusal.{Refusal}
use Rattle.cap_base.specs.declared.refusal.Refusal.TheVariants as refusals
use Rattle.cap_link.specs.Inputs.{Input}
use Rattle.cap_link.specs.Linked.{linked_file, refused_name}
use Rattle.purecap.specs.declared.faults.Failure.{Failure}
use Rattle.purecap.specs.declared.faults.Failure.TheVariants.{NoFile, Malformed, Unsupported, Unresolved, Full, Limit, NoMemory}
use Rattle.purecap.specs.LinkWords.{LinkWords}
use Rattle.purecap.specs.Story.{Product, Saved, Stop, stop_at, Story}

-- ---- the inputs

-- what a store has under the word of a file
abbrev pub Found : Type 0
Found = List ℕ × Option (List ℕ)

abbrev pub found_in : Store → List ℕ → Found
found_in store word = (word, file_in store word)

-- the bytes of all inputs
unfoldable pub size_of : List Input → ℕ
size_of [] = 0
size_of (input ∷ inputs) = length input.1 + size_of inputs

-- a file to link, which has at most 2^26 bytes
abbrev pub input_of : List ℕ → Option (List ℕ) → Result Input Stop
input_of word None = Err (stop_at word NoFile)
input_of word (Some bytes) = if nat_lt (2 ^ 26) (length bytes) then Err (stop_at word (Limit (number_of FileSize))) else Ok (word, bytes)

-- one more input, where all have at most 2^27 bytes
abbrev pub with_input : List Input → Input → Result (List Input) Stop
with_input inputs input =
    if nat_lt (2 ^ 27) (size_of inputs + length input.1) then Err (stop_at input.0 (Limit (number_of InputSize))) else Ok (inputs ++ input ∷ [])

unfoldable pub input_step : List Input → Found → Result (List Input) Stop
input_step inputs found = input_of found.0 found.1 >>= with_input inputs

-- all inputs, or why the first that fails does
abbrev pub inputs_of : List Found → Result (List Input) Stop
inputs_of found = steps input_step [] found

-- ---- the link

-- a shared object of this name, or a program
abbrev pub kind_of : Option (List ℕ) → Kind
kind_of None = kinds.Program
kind_of (Some soname) = kinds.Shared soname

-- the word of the input of this number
abbrev pub word_of : LinkWords → ℕ → List ℕ
word_of words file = unwrap_or (slice_get words.inputs file) []

-- the file that a refusal names: an input, or the file to write where it has too many addresses
abbrev pub refused_path : LinkWords → Refusal → List ℕ
refused_path words (refusals.Malformed file check at) = word_of words file
refused_path words (refusals.Unsupported file check at) = word_of words file
refused_path words (refusals.Unresolved file symbol) = word_of words file
refused_path words (refusals.Full asked left) = words.output
refused_path words (refusals.Limit check) = []
refused_path words refusals.NoMemory = []

-- its failure, where this is the name of the unresolved symbol
abbrev pub link_failure : List ℕ → Refusal → Failure
link_failure name (refusals.Malformed file check at) = Malformed check at
link_failure name (refusals.Unsupported file check at) = Unsupported check at
link_failure name (refusals.Unresolved file symbol) = Unresolved name
link_failure name (refusals.Full asked left) = Full asked
link_failure name (refusals.Limit check) = Limit check
link_failure name refusals.NoMemory = NoMemory

abbrev pub refused_link : LinkWords → List ℕ → Refusal → Stop
refused_link words name refusal = stop_at (refused_path words refusal) (link_failure name refusal)

-- the linked file, under its name
abbrev pub linked_by : LinkWords → List Input → Result (List ℕ) Refusal → Result Product Stop
linked_by words inputs (Ok bytes) = Ok (Saved words.output bytes [])
linked_by words inputs (Err refusal) = Err (refused_link words (refused_name inputs refusal) refusal)

unfoldable pub linked : LinkWords → List Input → Result Product Stop
linked words inputs = linked_by words inputs (linked_file inputs (kind_of words.soname))

-- `link` of files, under whose words a store has this
abbrev pub link_end : LinkWords → List Found → Result Product Stop
link_end words found = inputs_of found >>= linked words

abbrev pub link_story : LinkWords → List Found → Story
link_story words found = record { notes = []; «end» = link_end words found }
