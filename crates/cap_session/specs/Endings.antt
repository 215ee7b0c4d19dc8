-- How the calls of a session end.
use Rattle.std.specs.Prelude.{◌≡◌, Result, Ok, Err}
use Rattle.cap_session.specs.declared.refusal.Ready.{Ready}
use Rattle.cap_session.specs.declared.refusal.OpenRefusal.{OpenRefusal}
use Rattle.cap_session.specs.Refused.{IsRefusedBy}
use Rattle.cap_session.specs.State.{State}
use Rattle.cap_session.specs.Session.{SessionValue, StandsFor}

-- the session stands for the wanted state
abbrev pub Reaches : SessionValue → Result State OpenRefusal → Type 0
Reaches s wanted = (state : State) × (wanted ≡ Ok state) × StandsFor s state

-- how a start ends, where this is the state that it leads to
abbrev pub Starts : Result State OpenRefusal → Result SessionValue OpenRefusal → Type 0
Starts wanted (Ok s) = Reaches s wanted
Starts wanted (Err refusal) = IsRefusedBy wanted refusal refusal.cause

-- how a call ends, where this is the state that it leads to, and this the session that it leaves
abbrev pub Opens : Result State OpenRefusal → SessionValue → Result Ready OpenRefusal → Type 0
Opens wanted s (Ok ready) = Reaches s wanted
Opens wanted s (Err refusal) = IsRefusedBy wanted refusal refusal.cause
