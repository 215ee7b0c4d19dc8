use Rattle.std.proofs.Common.{◌≡◌, ℕ, ◌-◌, List, [], subst, sym, ap, ◌∙◌, refl, arith}
use Rattle.std.specs.Prelude.{IfErr, IfSome, Option, Result, Ok, Err}
use Rattle.std.proofs.lemmas.Result.{err_from_is_err_and}
use Rattle.cap_base.specs.Outside.{Store}
use Rattle.cap_session.specs.declared.refusal.OpenRefusal.{OpenRefusal}
use Rattle.cap_session.specs.declared.refusal.Ready.{Ready}
use Rattle.cap_session.specs.Endings.{Reaches}
use Rattle.cap_session.specs.Exact.{IsReached, IsUnfitCall}
use Rattle.cap_session.specs.Kept.{session_with}
use Rattle.cap_session.specs.Loading.{Loaded, fetch_from, with_named}
use Rattle.cap_session.specs.Refused.{CauseCounted, IsRefusedBy}
use Rattle.cap_session.specs.Roster.{Holds, Loads}
use Rattle.cap_session.specs.Session.{SessionValue, Grows, IsSession, StandsFor}
use Rattle.cap_session.specs.State.{State, opened}
use Rattle.cap_session.proofs.Apart.{roster-apart}
use Rattle.cap_session.proofs.Making.{grows, made_call, session_same}
use Rattle.cap_session.proofs.Reaching.{call_err, call_ok, call_unloaded, lists_of, some_weaker}
use Rattle.cap_session.proofs.Undoing.{cut_back}
use Rattle.cap_session.proofs.Unfit.{call-by}
use Rattle.cap_session.proofs.session.Session.open.Goals as goal

pub invariant_of-self-in-Ok : goal.invariant_of-self-in-Ok
invariant_of-self-in-Ok g c =
    made_call c.self.inside.roster c.load_named.new.roster c.enter.new.roster c.self.inside.look_up c.enter.new.look_up c.self.inside.starts.items c.enter.new.starts.items c.len-before.result c.as_bytes.result.now c.args.mode c.self.invariant c.load_named.ensures.sound c.in_ok-load_named.ensures.closed c.len.ensures.sound c.in_ok-load_named.ensures.extends c.len-before.ensures.len c.in-Ok.ensures.stays c.in-Ok.ensures.openings c.in-Ok.ensures.start_count c.in-Ok.ensures.starts c.in-Ok.ensures.owned c.in-Ok.ensures.read

pub invariant_of-self-in-Err : goal.invariant_of-self-in-Err
invariant_of-self-in-Err g c =
    subst IsSession (sym (session_same c.self.inside.roster c.cut.new.self c.self.inside.look_up c.enter.new.look_up c.self.inside.starts.items c.enter.new.starts.items (c.cut.ensures.value ∙ cut_back c.len-before.result c.self.inside.roster c.load_named.new.roster c.enter.new.roster c.len-before.ensures.len c.self.invariant.roster c.load_named.ensures.sound c.in_ok-load_named.ensures.extends c.in-Err.ensures.stays) c.in-Err.ensures.rule c.in-Err.ensures.start_count c.in-Err.ensures.openings c.in-Err.ensures.starts)) c.self.invariant

pub returns-in-Ok-clause-state : goal.returns-in-Ok-clause-state
returns-in-Ok-clause-state g c =
    subst (λ (s : SessionValue). (state : State) → StandsFor s state → IfSome (g.F.Files.told c.args.files.now) (λ store. Reaches (session_with c.enter.new.roster c.enter.new.look_up c.enter.new.starts.items) (opened (fetch_from store) s.dir s.rule state c.args.name.now c.args.mode))) c.self.view_is
    (λ state stand. some_weaker (g.F.Files.told c.args.files.now)
    (λ (store : Store). Loads {T = Unit {0}} (with_named (fetch_from store) c.self.inside.roster.dir state.objects c.args.name.now) c.self.inside.roster c.load_named.new.roster (Ok tt))
    (λ (store : Store). Reaches (session_with c.enter.new.roster c.enter.new.look_up c.enter.new.starts.items) (opened (fetch_from store) c.self.inside.roster.dir c.self.inside.look_up.rule state c.args.name.now c.args.mode))
    (λ store h. subst (λ (nm : List ℕ). Reaches (session_with c.enter.new.roster c.enter.new.look_up c.enter.new.starts.items) (opened (fetch_from store) c.self.inside.roster.dir c.self.inside.look_up.rule state nm c.args.mode)) c.as_bytes.ensures.value
    (call_ok (fetch_from store) c.as_bytes.result.now c.args.mode c.self.inside.roster c.load_named.new.roster c.enter.new.roster c.self.inside.look_up c.enter.new.look_up c.self.inside.starts.items c.enter.new.starts.items c.len-before.result state h.0 (record { stand = stand; wanted = subst (λ (nm : List ℕ). with_named (fetch_from store) c.self.inside.roster.dir state.objects nm ≡ Ok h.0) (sym c.as_bytes.ensures.value) h.1; holds = subst (λ (k : ℕ). Holds k c.self.inside.roster c.load_named.new.roster h.0) (sym c.len-before.ensures.len) h.2; count = c.len-before.ensures.len; roster = c.self.invariant.roster; grown_roster = c.load_named.ensures.sound; closed = c.in_ok-load_named.ensures.closed; dir = c.in_ok-load_named.ensures.extends.dir }) c.in-Ok.ensures.relocates c.in-Ok.ensures.stays c.in-Ok.ensures.openings c.in-Ok.ensures.start_count c.in-Ok.ensures.starts))
    (c.in_ok-load_named.ensures.loads state.objects (lists_of c.self.inside.roster c.self.inside.look_up c.self.inside.starts.items state stand)))

pub returns-in-Ok-clause-session : goal.returns-in-Ok-clause-session
returns-in-Ok-clause-session g c =
    made_call c.self.inside.roster c.load_named.new.roster c.enter.new.roster c.self.inside.look_up c.enter.new.look_up c.self.inside.starts.items c.enter.new.starts.items c.len-before.result c.as_bytes.result.now c.args.mode c.self.invariant c.load_named.ensures.sound c.in_ok-load_named.ensures.closed c.len.ensures.sound c.in_ok-load_named.ensures.extends c.len-before.ensures.len c.in-Ok.ensures.stays c.in-Ok.ensures.openings c.in-Ok.ensures.start_count c.in-Ok.ensures.starts c.in-Ok.ensures.owned c.in-Ok.ensures.read

pub returns-in-Ok-clause-ready : goal.returns-in-Ok-clause-ready
returns-in-Ok-clause-ready g c =
    subst (λ (s : SessionValue). Grows s (session_with c.enter.new.roster c.enter.new.look_up c.enter.new.starts.items) (c.len.result - c.len-before.result)) c.self.view_is
    (grows c.self.inside.roster c.load_named.new.roster c.enter.new.roster c.self.inside.look_up c.enter.new.look_up c.self.inside.starts.items c.enter.new.starts.items c.len-before.result (c.len.result - c.len-before.result) c.as_bytes.result.now c.args.mode c.in_ok-load_named.ensures.extends c.len-before.ensures.len c.in-Ok.ensures.stays (ap (λ (k : ℕ). k - c.len-before.result) c.len.ensures.len) c.in-Ok.ensures.rule c.in-Ok.ensures.openings c.in-Ok.ensures.start_count c.in-Ok.ensures.starts)

pub returns-in-Err-clause-state : goal.returns-in-Err-clause-state
returns-in-Err-clause-state g c =
    subst (λ (s : SessionValue). (state : State) → StandsFor s state → IfSome (g.F.Files.told c.args.files.now) (λ store. IsRefusedBy (opened (fetch_from store) s.dir s.rule state c.args.name.now c.args.mode) c.in-Err.refusal c.in-Err.refusal.cause)) c.self.view_is
    (λ state stand. some_weaker (g.F.Files.told c.args.files.now)
    (λ (store : Store). Loads {T = Unit {0}} (with_named (fetch_from store) c.self.inside.roster.dir state.objects c.args.name.now) c.self.inside.roster c.load_named.new.roster (Ok tt))
    (λ (store : Store). IsRefusedBy (opened (fetch_from store) c.self.inside.roster.dir c.self.inside.look_up.rule state c.args.name.now c.args.mode) c.in-Err.refusal c.in-Err.refusal.cause)
    (λ store h. subst (λ (nm : List ℕ). IsRefusedBy (opened (fetch_from store) c.self.inside.roster.dir c.self.inside.look_up.rule state nm c.args.mode) c.in-Err.refusal c.in-Err.refusal.cause) c.as_bytes.ensures.value
    (call_err (fetch_from store) c.as_bytes.result.now c.args.mode c.self.inside.roster c.load_named.new.roster c.self.inside.look_up c.self.inside.starts.items c.len-before.result state h.0 c.in-Err.refusal (record { stand = stand; wanted = subst (λ (nm : List ℕ). with_named (fetch_from store) c.self.inside.roster.dir state.objects nm ≡ Ok h.0) (sym c.as_bytes.ensures.value) h.1; holds = subst (λ (k : ℕ). Holds k c.self.inside.roster c.load_named.new.roster h.0) (sym c.len-before.ensures.len) h.2; count = c.len-before.ensures.len; roster = c.self.invariant.roster; grown_roster = c.load_named.ensures.sound; closed = c.in_ok-load_named.ensures.closed; dir = c.in_ok-load_named.ensures.extends.dir }) c.in-Err.ensures.relocates))
    (c.in_ok-load_named.ensures.loads state.objects (lists_of c.self.inside.roster c.self.inside.look_up c.self.inside.starts.items state stand)))

pub returns-in-Err-clause-session : goal.returns-in-Err-clause-session
returns-in-Err-clause-session g c =
    subst IsSession (sym (session_same c.self.inside.roster c.cut.new.self c.self.inside.look_up c.enter.new.look_up c.self.inside.starts.items c.enter.new.starts.items (c.cut.ensures.value ∙ cut_back c.len-before.result c.self.inside.roster c.load_named.new.roster c.enter.new.roster c.len-before.ensures.len c.self.invariant.roster c.load_named.ensures.sound c.in_ok-load_named.ensures.extends c.in-Err.ensures.stays) c.in-Err.ensures.rule c.in-Err.ensures.start_count c.in-Err.ensures.openings c.in-Err.ensures.starts)) c.self.invariant

pub returns-in-Err-clause-err : goal.returns-in-Err-clause-err
returns-in-Err-clause-err g c = session_same c.self.inside.roster c.cut.new.self c.self.inside.look_up c.enter.new.look_up c.self.inside.starts.items c.enter.new.starts.items (c.cut.ensures.value ∙ cut_back c.len-before.result c.self.inside.roster c.load_named.new.roster c.enter.new.roster c.len-before.ensures.len c.self.invariant.roster c.load_named.ensures.sound c.in_ok-load_named.ensures.extends c.in-Err.ensures.stays) c.in-Err.ensures.rule c.in-Err.ensures.start_count c.in-Err.ensures.openings c.in-Err.ensures.starts ∙ c.self.view_is

pub returns-in-Err-clause-reads : goal.returns-in-Err-clause-reads
returns-in-Err-clause-reads g c =
    let before = g.F.Files.read_faults c.args.files.now in
    subst (λ (now : ℕ). CauseCounted before now c.in-Err.refusal.cause) (sym c.in_ok-load_named.ensures.reads) (c.in-Err.ensures.unread before)

pub returns-in_err-load_named-clause-apart : goal.returns-in_err-load_named-clause-apart
returns-in_err-load_named-clause-apart g c = roster-apart c.load_named.new.roster c.load_named.ensures.sound

pub returns-in-Ok-clause-apart : goal.returns-in-Ok-clause-apart
returns-in-Ok-clause-apart g c = roster-apart c.enter.new.roster c.len.ensures.sound

pub returns-in-Err-clause-apart : goal.returns-in-Err-clause-apart
returns-in-Err-clause-apart g c = roster-apart c.cut.new.self c.cut.ensures.sound

pub returns-in_err-load_named-clause-unfit : goal.returns-in_err-load_named-clause-unfit
returns-in_err-load_named-clause-unfit g c =
    let p = err_from_is_err_and c.from_residual.result c.from_residual.ensures.1 in
    let refusal : OpenRefusal = c.in_err-load_named.field-0.0 in
    let e : c.from_residual.result ≡ Err refusal = p.1 ∙ ap (λ (r : OpenRefusal). Err r) p.2 in
    let told = g.F.Files.told c.args.files.now in
    let laws = c.state_laws.ensures in
    subst (λ (s : SessionValue). (state : State) → StandsFor s state → IsReached state → IfErr c.from_residual.result (λ (r : OpenRefusal). IfSome told (λ store. IsUnfitCall (fetch_from store) s.dir s.rule state c.args.name.now c.args.mode r))) c.self.view_is
    (λ state stand reached. subst (λ (r : Result Ready OpenRefusal). IfErr r (λ (r : OpenRefusal). IfSome told (λ store. IsUnfitCall (fetch_from store) c.self.inside.roster.dir c.self.inside.look_up.rule state c.args.name.now c.args.mode r))) (sym e)
    (some_weaker told
    (λ (store : Store). IsRefusedBy (with_named (fetch_from store) c.self.inside.roster.dir state.objects c.args.name.now) refusal refusal.cause)
    (λ (store : Store). IsUnfitCall (fetch_from store) c.self.inside.roster.dir c.self.inside.look_up.rule state c.args.name.now c.args.mode refusal)
    (λ store h. call-by laws.unfit laws.read store c.self.inside.roster.dir c.self.inside.look_up.rule state c.args.name.now c.args.mode refusal reached
    (call_unloaded (fetch_from store) c.self.inside.roster.dir c.args.name.now c.args.mode c.self.inside.look_up.rule state refusal h))
    (c.in_err-load_named.ensures.loads state.objects (lists_of c.self.inside.roster c.self.inside.look_up c.self.inside.starts.items state stand))))

pub returns-in-Err-clause-unfit : goal.returns-in-Err-clause-unfit
returns-in-Err-clause-unfit g c = λ state stand reached.
    let laws = c.state_laws.ensures in
    some_weaker (g.F.Files.told c.args.files.now)
    (λ (store : Store). IsRefusedBy (opened (fetch_from store) c.args.self.now.dir c.args.self.now.rule state c.args.name.now c.args.mode) c.in-Err.refusal c.in-Err.refusal.cause)
    (λ (store : Store). IsUnfitCall (fetch_from store) c.args.self.now.dir c.args.self.now.rule state c.args.name.now c.args.mode c.in-Err.refusal)
    (λ store h. call-by laws.unfit laws.read store c.args.self.now.dir c.args.self.now.rule state c.args.name.now c.args.mode c.in-Err.refusal reached h)
    (returns-in-Err-clause-state g c state stand)
