-- A start, one call, and calls one after another.
use Rattle.std.proofs.Common.{◌≡◌, ◌<◌, ◌+◌, ℕ, true, List, [], ◌∷◌, ◌++◌, length, get_or, map, drop, All, Option, Some, None, option_map, IfSome, Result, Ok, Err, refl, sym, ap, subst, ◌∙◌, suc, arith}
use Rattle.std.proofs.Math.Seq.{drop-cons}
use Rattle.cap_base.specs.Outside.{Store}
use Rattle.cap_session.specs.declared.form.Form.{Form}
use Rattle.cap_session.specs.declared.refusal.OpenCause.{OpenCause}
use Rattle.cap_session.specs.declared.refusal.OpenCause.TheVariants.{NoFile, Malformed, Unsupported, Unresolved, Inexact, Full, Limit, ReadFault, NoMemory}
use Rattle.cap_session.specs.declared.refusal.OpenRefusal.{OpenRefusal}
use Rattle.cap_session.specs.Loading.{Fetch, fetch_from}
use Rattle.cap_session.specs.State.{State, started}
use Rattle.cap_session.specs.Calls.{Call, Outcome, outcome_from}
use Rattle.cap_session.specs.Mappings.{IsName}
use Rattle.cap_session.specs.Session.{SessionValue}
use Rattle.cap_session.specs.Endings.{Starts}
use Rattle.cap_session.specs.Refused.{IsRefusedBy, CauseCounted}
use Rattle.purecap.specs.declared.faults.Failure.{Failure}
use Rattle.purecap.specs.Faults.{failure_of, refusal_line}
use Rattle.purecap.specs.declared.words.program.CallWord.{CallWord}
use Rattle.purecap.specs.ProgramWords.{ProgramWords, call_meant, IsCallName}
use Rattle.std.specs.String.{string_bytes}
use Rattle.std.proofs.lemmas.List.Elements.{All-nil, All-cons, All-head, All-tail}
use Rattle.purecap.specs.Answer.{note_lines}
use Rattle.purecap.specs.Run.{Count, counted, streamed}
use Rattle.purecap.specs.Printing.{Told}
use Rattle.purecap.specs.Calling.{Tells, is_passed, Passes, Leads, EndsCalls, HasMade, HasEnded, Makes, HasCalled, IsEnded, outcome_in}
use Rattle.purecap.proofs.Said.{one_line, tells-more, says_last, note_lines-more}
use Rattle.purecap.proofs.Outcomes.{Opening, leads_passed, leads_ended, leads_on, ends_on}

-- a refusal that is passed over left the count of failed reads
passed_counted : (form : Form) (cause : OpenCause) (before now : ℕ) → is_passed form (failure_of cause) ≡ true → CauseCounted before now cause → now ≡ before
passed_counted form NoFile before now passes counted = counted
passed_counted form (Malformed check at) before now passes counted = counted
passed_counted form (Unsupported check at) before now passes counted = counted
passed_counted form (Unresolved name) before now passes counted = counted
passed_counted form (Inexact name base len) before now passes counted = counted
passed_counted form (Full asked left) before now passes counted = counted
passed_counted form (Limit check) before now passes counted = counted
passed_counted form ReadFault before now passes counted = cc
passed_counted form NoMemory before now passes counted = cc

pub makes_refused : (told : Option Store) (old new : SessionValue) (call : Call) (reads : Count) (e0 e1 : Option (List ℕ)) (n0 n1 : ℕ) (so_far : Told) (refusal : OpenRefusal) (result : Result Told Failure)
    → Opening told old new call (Err refusal) → new ≡ old → CauseCounted reads.before reads.now refusal.cause → Passes call.form refusal (streamed e0 e1 n0 n1) so_far result
    → Makes told old new call reads (streamed e0 e1 n0 n1) so_far result
makes_refused told old new call reads e0 e1 n0 n1 so_far refusal (Ok next) opens same counted passes = record {
  notes = refusal ∷ [];
  says = one_line so_far e0 e1 n0 n1 (refusal_line refusal) next passes.1;
  leads = leads_passed old new call told refusal opens same passes.0;
  reads_kept = passed_counted call.form refusal.cause reads.before reads.now passes.0 counted;
}
makes_refused told old new call reads e0 e1 n0 n1 so_far refusal (Err failure) opens same counted passes = record {
  refusal = refusal;
  is_failure = passes.1;
  next = passes.2.0;
  says = passes.2.1;
  leads = leads_ended old new call told refusal opens passes.0;
  counted = counted;
}

pub called_none : (told : Option Store) (s : SessionValue) (calls : List Call) (reads : ℕ) (e : Option (List ℕ)) (n : ℕ) → HasCalled told s s calls calls (counted reads reads) (streamed e e n n) (Ok tt)
called_none told s calls reads e n = record {
  notes = [];
  says = (record { bytes = refl; count = refl }, refl);
  leads = λ outcome leads. record { rest = outcome; leads = leads; is = no_notes outcome };
  reads_kept = refl;
}
  where
    no_notes : (outcome : Option Outcome) → outcome ≡ option_map (λ (o : Outcome). record { notes = [] ++ o.notes; «end» = o.«end» }) outcome
    no_notes None = refl
    no_notes (Some o) = refl

module _ (told : Option Store) (old mid : SessionValue) (calls left : List Call) (call : Call) (r0 r1 r2 : ℕ) (e0 e1 e2 : Option (List ℕ)) (n0 n1 n2 : ℕ) (so_far : Told) where
  pub called_more : (new : SessionValue) (next : Told) → HasCalled told old mid calls (call ∷ left) (counted r0 r1) (streamed e0 e1 n0 n1) so_far
      → HasMade told mid new call (counted r1 r2) (streamed e1 e2 n1 n2) so_far next → HasCalled told old new calls left (counted r0 r2) (streamed e0 e2 n0 n2) next
  called_more new next has made = record {
    notes = has.notes ++ made.notes;
    says = subst (λ (l : List (List ℕ)). Tells (streamed e0 e2 n0 n2) l next) (sym (note_lines-more has.notes made.notes))
        (tells-more e0 e1 e2 n0 n1 n2 (note_lines has.notes) (note_lines made.notes) so_far next has.says made.says);
    leads = λ outcome leads. leads_on told mid new call left has.notes made.notes outcome (has.leads outcome leads) made.leads;
    reads_kept = made.reads_kept ∙ has.reads_kept;
  }

  pub called_ended : (failure : Failure) → HasCalled told old mid calls (call ∷ left) (counted r0 r1) (streamed e0 e1 n0 n1) so_far
      → HasEnded told mid call (counted r1 r2) (streamed e1 e2 n1 n2) so_far failure
      → (outcome : Option Outcome) → Leads told old calls outcome → IsEnded outcome (counted r0 r2) (streamed e0 e2 n0 n2) failure
  called_ended failure has ended outcome leads = record {
    notes = has.notes;
    refusal = ended.refusal;
    is_failure = ended.is_failure;
    says = says_last e0 e1 e2 n0 n1 n2 (note_lines has.notes) (refusal_line ended.refusal) so_far ended.next has.says ended.says;
    ends = ends_on told mid call left has.notes ended.refusal outcome (has.leads outcome leads) ended.leads;
    counted = subst (λ (n : ℕ). CauseCounted n r2 ended.refusal.cause) has.reads_kept ended.counted;
  }

-- a refused start
start_ends : (fetch : Fetch) (words : ProgramWords) (refusal : OpenRefusal) (cause : OpenCause) → IsRefusedBy (started fetch words.dir words.main words.rule) refusal cause
    → EndsCalls [] refusal cause (outcome_from fetch words.dir words.rule words.calls (started fetch words.dir words.main words.rule))
start_ends fetch words refusal NoFile is = ap (outcome_from fetch words.dir words.rule words.calls) is
start_ends fetch words refusal (Malformed check at) is = ap (outcome_from fetch words.dir words.rule words.calls) is
start_ends fetch words refusal (Unsupported check at) is = ap (outcome_from fetch words.dir words.rule words.calls) is
start_ends fetch words refusal (Unresolved name) is = ap (outcome_from fetch words.dir words.rule words.calls) is
start_ends fetch words refusal (Inexact name base len) is = ap (outcome_from fetch words.dir words.rule words.calls) is
start_ends fetch words refusal (Full asked left) is = ap (outcome_from fetch words.dir words.rule words.calls) is
start_ends fetch words refusal (Limit check) is = ap (outcome_from fetch words.dir words.rule words.calls) is
start_ends fetch words refusal ReadFault is = (_, refl)
start_ends fetch words refusal NoMemory is = (_, refl)

pub begin_ends : (told : Option Store) (words : ProgramWords) (refusal : OpenRefusal) → IfSome told (λ store. Starts (started (fetch_from store) words.dir words.main words.rule) (Err refusal))
    → IfSome (outcome_in told words) (EndsCalls [] refusal refusal.cause)
begin_ends None words refusal is = tt
begin_ends (Some store) words refusal is = start_ends (fetch_from store) words refusal refusal.cause is

pub begin_leads : (told : Option Store) (words : ProgramWords) (s : SessionValue) → IfSome told (λ store. Starts (started (fetch_from store) words.dir words.main words.rule) (Ok s))
    → s.dir ≡ words.dir → s.rule ≡ words.rule → Leads told s words.calls (outcome_in told words)
begin_leads None words s is dir rule = refl
begin_leads (Some store) words s is dir rule = (
  is.0,
  is.2,
  ap (λ (r : Result State OpenRefusal). Some (outcome_from (fetch_from store) words.dir words.rule words.calls r)) is.1
      ∙ ap (λ (d : List ℕ). Some (outcome_from (fetch_from store) d words.rule words.calls (Ok is.0))) (sym dir)
      ∙ ap (λ r. Some (outcome_from (fetch_from store) s.dir r words.calls (Ok is.0))) (sym rule),
)

-- the next of some items, each seen by f
pub next_item : {A B : Type 0} (f : A → B) (xs : List A) (i : ℕ) (x : A) → i < length xs → x ≡ get_or xs i x → map f (drop i xs) ≡ f x ∷ map f (drop (i + 1) xs)
next_item f xs i x below is =
    let next : suc i ≡ i + 1 = omega arith in
    ap (map f) (drop-cons xs i x below)
    ∙ ap (λ y. f y ∷ map f (drop (suc i) xs)) (sym is)
    ∙ ap (λ (n : ℕ). f x ∷ map f (drop n xs)) next

-- the names of calls that were accepted
pub calls_named : (calls : List CallWord) → All IsCallName (map call_meant calls) → All (λ call. IsName (string_bytes call.name)) calls
calls_named [] all = All-nil (λ (call : CallWord). IsName (string_bytes call.name))
calls_named (call ∷ calls) all =
    All-cons (λ (c : CallWord). IsName (string_bytes c.name)) call calls (All-head IsCallName (call_meant call) (map call_meant calls) all).0
    (calls_named calls (All-tail IsCallName (call_meant call) (map call_meant calls) all))
