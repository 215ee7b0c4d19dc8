-- A whole run of calls: the state that it leads to, the refusal that ends it, and those that are passed over.
use Rattle.std.specs.Prelude.{ℕ, Bool, true, false, List, [], ◌∷◌, Option, Some, None, Result, Ok, Err, if◌then◌else◌}
use Rattle.std.specs.Result.{result_unwrap_or}
use Rattle.cap_scope.specs.declared.choice.Rule.{Rule}
use Rattle.cap_session.specs.declared.form.Form.{Form}
use Rattle.cap_session.specs.declared.form.Form.TheVariants.{Open, Try}
use Rattle.cap_session.specs.declared.form.Form.TheVariants as forms
use Rattle.cap_session.specs.declared.refusal.Mode.{Mode}
use Rattle.cap_session.specs.declared.refusal.Mode.TheVariants.{Local, Global}
use Rattle.cap_session.specs.declared.refusal.OpenRefusal.{OpenRefusal}
use Rattle.cap_session.specs.Loading.{Fetch}
use Rattle.cap_session.specs.State.{State, started, opened}

-- a call: its form, and the name of its library
pub record Call : Type 0 where
  pub form : Form
  pub name : List ℕ

-- how a call of this form opens its library
abbrev pub mode_of : Form → Mode
mode_of Open = Local
mode_of forms.Global = Global
mode_of Try = Local

-- whether a refusal that the files decide, of a call of this form, is passed over
abbrev pub passes_over : Form → Bool
passes_over Open = false
passes_over forms.Global = false
passes_over Try = true

-- the state after a call, which is as before where the call is refused
abbrev pub after_call : Fetch → List ℕ → Rule → State → Call → State
after_call fetch dir rule state call = result_unwrap_or (opened fetch dir rule state call.name (mode_of call.form)) state

-- the state after calls
abbrev pub after_calls : Fetch → List ℕ → Rule → State → List Call → State
after_calls fetch dir rule state [] = state
after_calls fetch dir rule state (call ∷ calls) = after_calls fetch dir rule (after_call fetch dir rule state call) calls

-- each call that is refused, in the state that those before it leave, with its refusal
abbrev pub refused_calls : Fetch → List ℕ → Rule → State → List Call → List (Form × OpenRefusal)
refused_calls fetch dir rule state [] = []
refused_calls fetch dir rule state (call ∷ calls) =
    let rest = refused_calls fetch dir rule (after_call fetch dir rule state call) calls in
    elim (opened fetch dir rule state call.name (mode_of call.form)) [ Ok next ↦ rest | Err refusal ↦ (call.form, refusal) ∷ rest ]

abbrev pub is_passed_over : Form × OpenRefusal → Bool
is_passed_over r = passes_over r.0

-- the refusals that stand before the one that ends the run, or all of them
abbrev pub notes_of : List (Form × OpenRefusal) → List OpenRefusal
notes_of [] = []
notes_of (r ∷ rs) = if is_passed_over r then r.1 ∷ notes_of rs else []

-- the refusal that ends the run: the first of a call that isn't tried
abbrev pub ending_of : List (Form × OpenRefusal) → Option OpenRefusal
ending_of [] = None
ending_of (r ∷ rs) = if is_passed_over r then ending_of rs else Some r.1

-- what a run of calls leaves: the refusals that are passed over, and the state or the refusal that ends it
pub record Outcome : Type 0 where
  pub notes : List OpenRefusal
  pub «end» : Result State OpenRefusal

abbrev pub state_unless : Option OpenRefusal → State → Result State OpenRefusal
state_unless None state = Ok state
state_unless (Some refusal) state = Err refusal

abbrev pub outcome_from : Fetch → List ℕ → Rule → List Call → Result State OpenRefusal → Outcome
outcome_from fetch dir rule calls (Err refusal) = record { notes = []; «end» = Err refusal }
outcome_from fetch dir rule calls (Ok state) =
    let refused = refused_calls fetch dir rule state calls in
    record { notes = notes_of refused; «end» = state_unless (ending_of refused) (after_calls fetch dir rule state calls) }

-- a start and calls
abbrev pub outcome_of : Fetch → List ℕ → List ℕ → Rule → List Call → Outcome
outcome_of fetch dir main rule calls = outcome_from fetch dir rule calls (started fetch dir main rule)
