-- A session as contracts see it.
use Rattle.std.specs.Prelude.{ℕ, List, [], ◌∷◌, Result, Ok, Err}
use Rattle.cap_session.specs.declared.refusal.OpenRefusal.{OpenRefusal}
use Rattle.cap_session.specs.declared.scope.LookUp.{LookUp}
use Rattle.cap_session.specs.declared.session.Session.TheInside.{Inside}
use Rattle.cap_session.specs.Endings.{Reaches}
use Rattle.cap_session.specs.Refused.{IsRefusedBy}
use Rattle.cap_session.specs.Roster.{RosterValue}
use Rattle.cap_session.specs.Session.{SessionValue}
use Rattle.cap_session.specs.State.{State}

-- a session of these objects, this way to look names up, and these starts
abbrev pub session_with : RosterValue → LookUp → List ℕ → SessionValue
session_with roster look_up starts = record {
  dir = roster.dir;
  rule = look_up.rule;
  objects = roster.objects;
  names = roster.names;
  deps = roster.deps;
  openings = look_up.openings.items;
  start_count = look_up.start_count;
  starts = starts;
  pads = roster.pads;
  roots = roster.roots;
  memories = roster.memories;
  symbols = roster.symbols;
  next = roster.next;
}

abbrev pub value_of : Inside → SessionValue
value_of s = session_with s.roster s.look_up s.starts.items

-- how loading the program ends, where this is the state that it leads to
abbrev pub StartsWith : Result State OpenRefusal → RosterValue → Result LookUp OpenRefusal → Type 0
StartsWith wanted roster (Ok look_up) = Reaches (session_with roster look_up (0 ∷ [])) wanted
StartsWith wanted roster (Err refusal) = IsRefusedBy wanted refusal refusal.cause
