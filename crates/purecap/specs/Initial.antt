-- The initial calls of a program and its libraries, and how they are printed.
use Rattle.std.specs.Prelude.{ℕ, List, [], ◌++◌, length, map, flat_map, codes, decimal, slice_index_or}
use Rattle.cap_image.specs.Report.{hex}
use Rattle.cap_init.specs.declared.call.Call.{Call}
use Rattle.cap_init.specs.Calls.{calls_of}
use Rattle.cap_init.specs.Post.{init_order}
use Rattle.cap_session.specs.Loading.{dependencies, records_of}
use Rattle.cap_session.specs.Session.{SessionValue, all_records}
use Rattle.cap_session.specs.State.{State, memories_of}

-- the line of a call: its slot, where it leads, and the name of the object in whose array it stands
unfoldable pub call_line : List (List ℕ) → Call → List ℕ
call_line names call =
    codes "call 0x" ++ hex 16 call.slot ++ codes " 0x" ++ hex 16 call.cursor ++ codes " " ++ slice_index_or names call.object [] ++ codes "\n"

abbrev pub calls_line : ℕ → List ℕ
calls_line count = codes "calls " ++ decimal count ++ codes "\n"

-- a line for each call, and a last line
unfoldable pub calls_report : List (List ℕ) → List Call → List ℕ
calls_report names calls = flat_map (call_line names) calls ++ calls_line (length calls)

-- the initial calls of a state: group by group, as the start and each call loaded them
abbrev pub initial_calls : State → List Call
initial_calls state =
    calls_of (map records_of state.objects) (memories_of state) (init_order (dependencies state.objects) state.starts (length state.objects))

abbrev pub initial_text : State → List ℕ
initial_text state = calls_report (map (λ o. o.name) state.objects) (initial_calls state)

-- the same of a session
abbrev pub session_calls : SessionValue → List ℕ
session_calls s =
    calls_report (map (λ name. name.0) s.names) (calls_of (all_records s) s.memories (init_order s.deps s.starts (length s.deps)))
