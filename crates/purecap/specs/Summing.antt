-- How the steps of `demo` go.
use Rattle.std.specs.Prelude.{◌≡◌, ℕ, zero, suc, ◌+◌, ◌-◌, ◌*◌, ◌/◌, ◌%◌, ◌^◌, ◌≤◌, sum, Bool, true, false, not, ◌&&◌, List, [], ◌∷◌, ◌++◌, length, codes, Result, Ok, Err, if◌then◌else◌}
use Rattle.cap_base.specs.Outside.{Store}
use Rattle.cap_base.specs.Steps.{◌>>=◌}
use Rattle.cap_demo.specs.Objects.{demo_object, state_after}
use Rattle.cap_link.specs.Inputs.{Input}
use Rattle.cap_mem.specs.Tagged.{TaggedMemory, is_tagged, word_in}
use Rattle.cap_image.specs.Report.{last_line}
use Rattle.cap_image.specs.Writing.{image_of}
use Rattle.cap_scope.specs.declared.choice.Rule.TheVariants.{NonWeak}
use Rattle.cap_session.specs.declared.refusal.OpenCause.{OpenCause}
use Rattle.cap_session.specs.declared.refusal.OpenCause.TheVariants as causes
use Rattle.cap_session.specs.declared.refusal.OpenRefusal.{OpenRefusal}
use Rattle.cap_session.specs.Session.{SessionValue, StandsFor}
use Rattle.cap_session.specs.State.{State}
use Rattle.purecap.specs.declared.demo.Halt.{Halt}
use Rattle.purecap.specs.declared.demo.Halt.TheVariants as halts
use Rattle.purecap.specs.declared.faults.Failure.{Failure}
use Rattle.purecap.specs.declared.faults.Failure.TheVariants.{NoMemory}
use Rattle.purecap.specs.Faults.{failure_of, line_of}
use Rattle.purecap.specs.WordRules.{is_long, is_path}
use Rattle.cap_loaded.specs.Images.{state_image}
use Rattle.purecap.specs.Demo.{demo_opened, summary_lines, summary_of}
use Rattle.purecap.specs.Run.{Stream, Says}
use Rattle.purecap.specs.Story.{Stop, stop_at}

-- memory ran out, or a step stops as is said here
abbrev pub Halts : {Y : Type 0} → Halt → Result Y Stop → Type 0
Halts halts.Memory said = Unit {0}
Halts (halts.Stop stop) said = said ≡ Err stop

-- a step gives, seen by view, what is said here, or stops
abbrev pub Gives : {X Y : Type 0} → (X → Y) → Result Y Stop → Result X Halt → Type 0
Gives view said (Ok x) = said ≡ Ok (view x)
Gives view said (Err halt) = Halts halt said

-- a session stands for this state, and seeks libraries where `demo` has them
pub record IsStarted (s : SessionValue) (state : State) : Type 0 where
  pub stands : StandsFor s state
  pub dir : s.dir ≡ codes "."
  pub rule : s.rule ≡ NonWeak

-- the program is started
abbrev pub Begins : Result State Stop → Result SessionValue Halt → Type 0
Begins said (Ok s) = (state : State) × (said ≡ Ok state) × IsStarted s state
Begins said (Err halt) = Halts halt said

-- the summary of a session
abbrev pub session_summary : ℕ → SessionValue → List ℕ
session_summary number s = summary_of number (image_of s.names s.symbols s.memories)

-- the summary of the state after one call more
abbrev pub summary_after : ℕ → Store → State → Result (List ℕ) Stop
summary_after number store state = demo_opened store state >>= λ next. Ok (summary_of number (state_image next))

-- ---- stops

abbrev pub is_starved : Failure → Bool
is_starved NoMemory = true
is_starved failure = false

-- the stop of a link becomes this, but for want of memory
abbrev pub HaltsAs : Stop → Halt → Type 0
HaltsAs stop halts.Memory = Unit {0}
HaltsAs stop (halts.Stop given) = (given ≡ stop) × (is_starved stop.failure ≡ false)

-- a store in memory fails no read, so that a read fault is want of memory too
abbrev pub is_lost : OpenCause → Bool
is_lost causes.ReadFault = true
is_lost causes.NoMemory = true
is_lost cause = false

-- the refusal of a start or a call becomes this
abbrev pub HaltsBy : OpenRefusal → Halt → Type 0
HaltsBy refusal halts.Memory = Unit {0}
HaltsBy refusal (halts.Stop given) = (given ≡ stop_at refusal.path (failure_of refusal.cause)) × (is_lost refusal.cause ≡ false)

-- the line of a stop was written, or that of want of memory
abbrev pub Tells : Halt → Stream → Failure → Type 0
Tells halts.Memory err failure = (failure ≡ NoMemory) × Says err (line_of [] NoMemory ∷ [])
Tells (halts.Stop stop) err failure = (failure ≡ stop.failure) × Says err (line_of stop.path stop.failure ∷ [])

-- ---- the objects

-- three objects from this number on, under these names
abbrev pub three_objects : ℕ → ℕ → List ℕ → List ℕ → List ℕ → List Input
three_objects state number a b c =
    (a, demo_object state number) ∷ (b, demo_object (state_after state) (number + 1))
    ∷ (c, demo_object (state_after (state_after state)) (number + 2)) ∷ []

abbrev pub two_objects : ℕ → ℕ → List ℕ → List ℕ → List Input
two_objects state number a b = (a, demo_object state number) ∷ (b, demo_object (state_after state) (number + 1)) ∷ []

abbrev pub after_three : ℕ → ℕ
after_three state = state_after (state_after (state_after state))

-- a text that can name an input
abbrev pub is_input : List ℕ → Bool
is_input name = is_path name && not (is_long name)

-- ---- the words of memories

-- a memory that begins at a granule, and ends within 64 bits
pub record ArePages (memory : TaggedMemory) : Type 0 where
  pub aligned : memory.base % 16 ≡ 0
  pub within : memory.base + length memory.bytes ≤ 2 ^ 64

-- the address of the word at a granule
abbrev pub word_address : TaggedMemory → ℕ → ℕ
word_address memory granule = (word_in memory.bytes (granule - memory.base)).address

-- the same for the granule of this number, where it is tagged
unfoldable pub address_if : TaggedMemory → ℕ → List ℕ
address_if memory k =
    let granule = memory.base + 16 * k in
    if is_tagged memory granule then word_address memory granule ∷ [] else []

-- those of the first granules, and of all
unfoldable pub first_addresses : TaggedMemory → ℕ → List ℕ
first_addresses memory zero = []
first_addresses memory (suc n) = first_addresses memory n ++ address_if memory n

abbrev pub memory_addresses : TaggedMemory → List ℕ
memory_addresses memory = first_addresses memory (length memory.bytes / 16)

-- a summary: so many objects, tagged words of these addresses, and an image of so many bytes
unfoldable pub summary_text : ℕ → ℕ → List ℕ → ℕ → List ℕ
summary_text number objects addresses size = summary_lines number (last_line objects (length addresses)) size (sum addresses % 2 ^ 64)
