-- How calls lead on, one after another.
use Rattle.std.proofs.Common.{◌≡◌, ℕ, Bool, true, false, cond, List, [], ◌∷◌, ◌++◌, Option, Some, None, option_map, IfSome, Result, Ok, Err, refl, sym, ap, subst, ◌∙◌, append-nil, append_assoc}
use Rattle.std.specs.Result.{result_unwrap_or}
use Rattle.cap_base.specs.Outside.{Store}
use Rattle.cap_scope.specs.declared.choice.Rule.{Rule}
use Rattle.cap_session.specs.declared.form.Form.{Form}
use Rattle.cap_session.specs.declared.refusal.Ready.{Ready}
use Rattle.cap_session.specs.declared.refusal.OpenCause.{OpenCause}
use Rattle.cap_session.specs.declared.refusal.OpenCause.TheVariants.{NoFile, Malformed, Unsupported, Unresolved, Inexact, Full, Limit, ReadFault, NoMemory}
use Rattle.cap_session.specs.declared.refusal.OpenRefusal.{OpenRefusal}
use Rattle.cap_session.specs.Loading.{Fetch, fetch_from}
use Rattle.cap_session.specs.State.{State, opened}
use Rattle.cap_session.specs.Calls.{Call, mode_of, passes_over, Outcome, after_calls, refused_calls, notes_of, ending_of, state_unless, outcome_from}
use Rattle.cap_session.specs.Session.{SessionValue, StandsFor}
use Rattle.cap_session.specs.Endings.{Opens}
use Rattle.cap_session.specs.Refused.{IsRefusedBy}
use Rattle.purecap.specs.Faults.{failure_of}
use Rattle.purecap.specs.Calling.{is_passed, with_notes, Leads, LeadsOn, EndsCalls}

module _ (fetch : Fetch) (dir : List ℕ) (rule : Rule) (state : State) (call : Call) (left : List Call) where
  -- the refused calls, where the first gives this
  abbrev refused_by : Result State OpenRefusal → List (Form × OpenRefusal)
  refused_by given =
      let rest = refused_calls fetch dir rule (result_unwrap_or given state) left in
      elim given [ Ok next ↦ rest | Err refusal ↦ (call.form, refusal) ∷ rest ]

  abbrev outcome_by : Result State OpenRefusal → Outcome
  outcome_by given = record {
    notes = notes_of (refused_by given);
    «end» = state_unless (ending_of (refused_by given)) (after_calls fetch dir rule (result_unwrap_or given state) left);
  }

  pub made : (next : State) → opened fetch dir rule state call.name (mode_of call.form) ≡ Ok next
      → outcome_from fetch dir rule (call ∷ left) (Ok state) ≡ outcome_from fetch dir rule left (Ok next)
  made next is = ap outcome_by is

  -- the same, where the call is refused, by whether it passes that over
  abbrev refused_outcome : OpenRefusal → Bool → Outcome
  refused_outcome refusal passes =
      let rest = refused_calls fetch dir rule state left in
      record {
        notes = cond passes (refusal ∷ notes_of rest) [];
        «end» = state_unless (cond passes (ending_of rest) (Some refusal)) (after_calls fetch dir rule state left);
      }

  pub passed : (refusal : OpenRefusal) → opened fetch dir rule state call.name (mode_of call.form) ≡ Err refusal → passes_over call.form ≡ true
      → outcome_from fetch dir rule (call ∷ left) (Ok state) ≡ with_notes (refusal ∷ []) (outcome_from fetch dir rule left (Ok state))
  passed refusal is passes = ap outcome_by is ∙ ap (refused_outcome refusal) passes

  pub stopped : (refusal : OpenRefusal) → opened fetch dir rule state call.name (mode_of call.form) ≡ Err refusal → passes_over call.form ≡ false
      → outcome_from fetch dir rule (call ∷ left) (Ok state) ≡ record { notes = []; «end» = Err refusal }
  stopped refusal is stops = ap outcome_by is ∙ ap (refused_outcome refusal) stops

-- a refusal that is passed over is the one that the definition gives, and its call passes over refusals
refused_is : (form : Form) (wanted : Result State OpenRefusal) (refusal : OpenRefusal) (cause : OpenCause) → IsRefusedBy wanted refusal cause → is_passed form (failure_of cause) ≡ true
    → (wanted ≡ Err refusal) × (passes_over form ≡ true)
refused_is form wanted refusal NoFile is passes = (is, passes)
refused_is form wanted refusal (Malformed check at) is passes = (is, passes)
refused_is form wanted refusal (Unsupported check at) is passes = (is, passes)
refused_is form wanted refusal (Unresolved name) is passes = (is, passes)
refused_is form wanted refusal (Inexact name base len) is passes = (is, passes)
refused_is form wanted refusal (Full asked left) is passes = (is, passes)
refused_is form wanted refusal (Limit check) is passes = (is, passes)
refused_is form wanted refusal ReadFault is passes = cc
refused_is form wanted refusal NoMemory is passes = cc

-- what a call's contract says of its end
abbrev pub Opening : Option Store → SessionValue → SessionValue → Call → Result Ready OpenRefusal → Type 0
Opening told old new call result =
    (state : State) → StandsFor old state → IfSome told (λ store. Opens (opened (fetch_from store) old.dir old.rule state call.name (mode_of call.form)) new result)

module _ (old new : SessionValue) (call : Call) where
  pub leads_made : (told : Option Store) (ready : Ready) → Opening told old new call (Ok ready) → new.dir ≡ old.dir → new.rule ≡ old.rule
      → (left : List Call) (outcome : Option Outcome) → Leads told old (call ∷ left) outcome → LeadsOn told new left [] outcome
  leads_made None ready opens dir rule left outcome leads = record { rest = None; leads = refl; is = leads }
  leads_made (Some store) ready opens dir rule left outcome leads =
      let reached = opens leads.0 leads.1 in
      let next = outcome_from (fetch_from store) old.dir old.rule left (Ok reached.0) in
      let dirs = subst (λ (d : List ℕ). Some next ≡ Some (outcome_from (fetch_from store) d old.rule left (Ok reached.0))) (sym dir) refl in
      let same = subst (λ (r : Rule). Some next ≡ Some (outcome_from (fetch_from store) new.dir r left (Ok reached.0))) (sym rule) dirs in
      record {
        rest = Some (outcome_from (fetch_from store) new.dir new.rule left (Ok reached.0));
        leads = (reached.0, reached.2, refl);
        is = leads.2 ∙ ap (λ (o : Outcome). Some o) (made (fetch_from store) old.dir old.rule leads.0 call left reached.0 reached.1) ∙ same;
      }

  pub leads_passed : (told : Option Store) (refusal : OpenRefusal) → Opening told old new call (Err refusal) → new ≡ old → is_passed call.form (failure_of refusal.cause) ≡ true
      → (left : List Call) (outcome : Option Outcome) → Leads told old (call ∷ left) outcome → LeadsOn told new left (refusal ∷ []) outcome
  leads_passed None refusal opens same passes left outcome leads = record { rest = None; leads = refl; is = leads }
  leads_passed (Some store) refusal opens same passes left outcome leads =
      let by = opens leads.0 leads.1 in
      let is = refused_is call.form _ refusal refusal.cause by passes in
      let next = outcome_from (fetch_from store) old.dir old.rule left (Ok leads.0) in
      subst (λ (s : SessionValue). LeadsOn (Some store) s left (refusal ∷ []) outcome) (sym same)
      (record {
        rest = Some next;
        leads = (leads.0, leads.1, refl);
        is = leads.2 ∙ ap (λ (o : Outcome). Some o) (passed (fetch_from store) old.dir old.rule leads.0 call left refusal is.0 is.1);
      })

  ends_by : (fetch : Fetch) (state : State) (left : List Call) (refusal : OpenRefusal) (cause : OpenCause)
      → IsRefusedBy (opened fetch old.dir old.rule state call.name (mode_of call.form)) refusal cause → is_passed call.form (failure_of cause) ≡ false
      → EndsCalls [] refusal cause (outcome_from fetch old.dir old.rule (call ∷ left) (Ok state))
  ends_by fetch state left refusal NoFile by stops = stopped fetch old.dir old.rule state call left refusal by stops
  ends_by fetch state left refusal (Malformed check at) by stops = stopped fetch old.dir old.rule state call left refusal by stops
  ends_by fetch state left refusal (Unsupported check at) by stops = stopped fetch old.dir old.rule state call left refusal by stops
  ends_by fetch state left refusal (Unresolved name) by stops = stopped fetch old.dir old.rule state call left refusal by stops
  ends_by fetch state left refusal (Inexact name base len) by stops = stopped fetch old.dir old.rule state call left refusal by stops
  ends_by fetch state left refusal (Full asked room) by stops = stopped fetch old.dir old.rule state call left refusal by stops
  ends_by fetch state left refusal (Limit check) by stops = stopped fetch old.dir old.rule state call left refusal by stops
  ends_by fetch state left refusal ReadFault by stops = (_, refl)
  ends_by fetch state left refusal NoMemory by stops = (_, refl)

  pub leads_ended : (told : Option Store) (refusal : OpenRefusal) → Opening told old new call (Err refusal) → is_passed call.form (failure_of refusal.cause) ≡ false
      → (left : List Call) (outcome : Option Outcome) → Leads told old (call ∷ left) outcome → IfSome outcome (EndsCalls [] refusal refusal.cause)
  leads_ended None refusal opens stops left outcome leads = subst (λ (o : Option Outcome). IfSome o (EndsCalls [] refusal refusal.cause)) (sym leads) tt
  leads_ended (Some store) refusal opens stops left outcome leads =
      subst (λ (o : Option Outcome). IfSome o (EndsCalls [] refusal refusal.cause)) (sym leads.2)
      (ends_by (fetch_from store) leads.0 left refusal refusal.cause (opens leads.0 leads.1) stops)

-- notes in front of notes
notes_join : (notes more : List OpenRefusal) (rest : Option Outcome) → option_map (with_notes notes) (option_map (with_notes more) rest) ≡ option_map (with_notes (notes ++ more)) rest
notes_join notes more None = refl
notes_join notes more (Some o) =
    ap (λ (n : List OpenRefusal). Some (record { notes = n; «end» = o.«end» })) (sym (append_assoc notes more o.notes))

pub leads_on : (told : Option Store) (mid new : SessionValue) (call : Call) (left : List Call) (notes more : List OpenRefusal) (outcome : Option Outcome) → LeadsOn told mid (call ∷ left) notes outcome
    → ((left : List Call) (outcome : Option Outcome) → Leads told mid (call ∷ left) outcome → LeadsOn told new left more outcome) → LeadsOn told new left (notes ++ more) outcome
leads_on told mid new call left notes more outcome on step =
    let then = step left on.rest on.leads in
    record { rest = then.rest; leads = then.leads; is = on.is ∙ ap (option_map (with_notes notes)) then.is ∙ notes_join notes more then.rest }

-- an end behind notes
ends_behind : (notes : List OpenRefusal) (refusal : OpenRefusal) (cause : OpenCause) (o : Outcome) → EndsCalls [] refusal cause o → EndsCalls notes refusal cause (with_notes notes o)
ends_behind notes refusal NoFile o ends = ap (with_notes notes) ends ∙ ap (λ (n : List OpenRefusal). record { notes = n; «end» = Err refusal }) (append-nil notes)
ends_behind notes refusal (Malformed check at) o ends = ap (with_notes notes) ends ∙ ap (λ (n : List OpenRefusal). record { notes = n; «end» = Err refusal }) (append-nil notes)
ends_behind notes refusal (Unsupported check at) o ends = ap (with_notes notes) ends ∙ ap (λ (n : List OpenRefusal). record { notes = n; «end» = Err refusal }) (append-nil notes)
ends_behind notes refusal (Unresolved name) o ends = ap (with_notes notes) ends ∙ ap (λ (n : List OpenRefusal). record { notes = n; «end» = Err refusal }) (append-nil notes)
ends_behind notes refusal (Inexact name base len) o ends = ap (with_notes notes) ends ∙ ap (λ (n : List OpenRefusal). record { notes = n; «end» = Err refusal }) (append-nil notes)
ends_behind notes refusal (Full asked room) o ends = ap (with_notes notes) ends ∙ ap (λ (n : List OpenRefusal). record { notes = n; «end» = Err refusal }) (append-nil notes)
ends_behind notes refusal (Limit check) o ends = ap (with_notes notes) ends ∙ ap (λ (n : List OpenRefusal). record { notes = n; «end» = Err refusal }) (append-nil notes)
ends_behind notes refusal ReadFault o ends = (ends.0, ap (λ (n : List OpenRefusal). notes ++ n) ends.1)
ends_behind notes refusal NoMemory o ends = (ends.0, ap (λ (n : List OpenRefusal). notes ++ n) ends.1)

ends_in : (notes : List OpenRefusal) (refusal : OpenRefusal) (rest : Option Outcome) → IfSome rest (EndsCalls [] refusal refusal.cause)
    → IfSome (option_map (with_notes notes) rest) (EndsCalls notes refusal refusal.cause)
ends_in notes refusal None ends = tt
ends_in notes refusal (Some o) ends = ends_behind notes refusal refusal.cause o ends

pub ends_on : (told : Option Store) (mid : SessionValue) (call : Call) (left : List Call) (notes : List OpenRefusal) (refusal : OpenRefusal) (outcome : Option Outcome)
    → LeadsOn told mid (call ∷ left) notes outcome → ((left : List Call) (outcome : Option Outcome) → Leads told mid (call ∷ left) outcome → IfSome outcome (EndsCalls [] refusal refusal.cause))
    → IfSome outcome (EndsCalls notes refusal refusal.cause)
ends_on told mid call left notes refusal outcome on step =
    subst (λ (o : Option Outcome). IfSome o (EndsCalls notes refusal refusal.cause)) (sym on.is) (ends_in notes refusal on.rest (step left on.rest on.leads))
