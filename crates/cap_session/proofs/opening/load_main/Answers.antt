use Rattle.std.proofs.Common.{◌≡◌, ℕ, List, [], ◌∷◌, length, drop, subst, sym, ap, ◌∙◌, refl, arith}
use Rattle.std.specs.Prelude.{All, IfSome, Option, Result, Ok, Err}
use Rattle.std.proofs.lemmas.Result.{err_from_is_err_and}
use Rattle.cap_base.specs.Outside.{Store}
use Rattle.cap_session.specs.declared.refusal.OpenRefusal.{OpenRefusal}
use Rattle.cap_session.specs.declared.scope.LookUp.{LookUp}
use Rattle.cap_session.specs.Kept.{StartsWith}
use Rattle.cap_session.specs.Loading.{Loaded, fetch_from, with_needed}
use Rattle.cap_session.specs.Refused.{IsRefusedBy, ReadsCounted}
use Rattle.cap_session.specs.Roster.{RosterValue, Holds, Loads}
use Rattle.cap_session.specs.State.{started}
use Rattle.cap_session.proofs.Answering.{lists-none}
use Rattle.cap_session.proofs.Making.{made_start}
use Rattle.cap_session.proofs.Reaching.{some_weaker, start_ok, start_err, start_unloaded}
use Rattle.cap_session.proofs.opening.load_main.Goals as goal

pub returns-in_err-load-clause-state : goal.returns-in_err-load-clause-state
returns-in_err-load-clause-state g c =
    let p = err_from_is_err_and c.from_residual.result c.from_residual.ensures.1 in
    let refusal : OpenRefusal = c.in_err-load.field-0.0 in
    let e : c.from_residual.result ≡ Err refusal = p.1 ∙ ap (λ (r : OpenRefusal). Err r) p.2 in
    let said = c.in_err-load.ensures.loads [] (lists-none c.args.roster.now c.args.roster.now.dir c.requires.empty) in
    subst (λ (r : Result LookUp OpenRefusal). IfSome (g.F.Files.told c.args.files.now) (λ store. StartsWith (started (fetch_from store) c.args.roster.now.dir c.args.main.now c.args.rule) c.load.new.self r)) (sym e)
    (some_weaker (g.F.Files.told c.args.files.now)
    (λ (store : Store). IsRefusedBy (with_needed (fetch_from store) c.args.roster.now.dir [] c.args.main.now) refusal refusal.cause)
    (λ (store : Store). IsRefusedBy (started (fetch_from store) c.args.roster.now.dir c.args.main.now c.args.rule) refusal refusal.cause)
    (λ store h. start_unloaded (fetch_from store) c.args.roster.now.dir c.args.main.now c.args.rule refusal h) said)

pub returns-in_err-relocate_from-clause-state : goal.returns-in_err-relocate_from-clause-state
returns-in_err-relocate_from-clause-state g c =
    let p = err_from_is_err_and c.from_residual-in_err-relocate_from.result c.from_residual-in_err-relocate_from.ensures.1 in
    let refusal : OpenRefusal = c.in_err-relocate_from.field-0.0 in
    let e : c.from_residual-in_err-relocate_from.result ≡ Err refusal = p.1 ∙ ap (λ (r : OpenRefusal). Err r) p.2 in
    let look_up : LookUp = record { rule = c.args.rule; start_count = c.len.result; openings = c.new.result } in
    let said = c.in_ok-load.ensures.loads [] (lists-none c.args.roster.now c.args.roster.now.dir c.requires.empty) in
    subst (λ (r : Result LookUp OpenRefusal). IfSome (g.F.Files.told c.args.files.now) (λ store. StartsWith (started (fetch_from store) c.args.roster.now.dir c.args.main.now c.args.rule) c.relocate_from.new.self r)) (sym e)
    (some_weaker (g.F.Files.told c.args.files.now)
    (λ (store : Store). Loads {T = Unit {0}} (with_needed (fetch_from store) c.args.roster.now.dir [] c.args.main.now) c.args.roster.now c.load.new.self (Ok tt))
    (λ (store : Store). IsRefusedBy (started (fetch_from store) c.args.roster.now.dir c.args.main.now c.args.rule) refusal refusal.cause)
    (λ store h. start_err (fetch_from store) c.args.roster.now.dir c.args.main.now c.args.rule c.load.new.self look_up h.0 refusal h.1 h.2.lists c.in_ok-load.ensures.extends.dir refl c.len.ensures.len c.new.ensures.items c.in_err-relocate_from.ensures.relocates) said)

pub returns-in_err-relocate_from-clause-reads : goal.returns-in_err-relocate_from-clause-reads
returns-in_err-relocate_from-clause-reads g c =
    let p = err_from_is_err_and c.from_residual-in_err-relocate_from.result c.from_residual-in_err-relocate_from.ensures.1 in
    let refusal : OpenRefusal = c.in_err-relocate_from.field-0.0 in
    let e : c.from_residual-in_err-relocate_from.result ≡ Err refusal = p.1 ∙ ap (λ (r : OpenRefusal). Err r) p.2 in
    let before = g.F.Files.read_faults c.args.files.now in
    let here : ReadsCounted {T = LookUp} before before (Err refusal) = c.in_err-relocate_from.ensures.unread before in
    subst (λ (r : Result LookUp OpenRefusal). ReadsCounted before (g.F.Files.read_faults c.load.new.files) r) (sym e)
    (subst (λ (now : ℕ). ReadsCounted {T = LookUp} before now (Err refusal)) (sym c.in_ok-load.ensures.reads) here)

pub returns-clause-state : goal.returns-clause-state
returns-clause-state g c =
    let look_up : LookUp = record { rule = c.args.rule; start_count = c.len.result; openings = c.new.result } in
    let said = c.in_ok-load.ensures.loads [] (lists-none c.args.roster.now c.args.roster.now.dir c.requires.empty) in
    let none = ap (λ (r : RosterValue). r.memories) c.requires.empty in
    let zero = ap (λ (r : RosterValue). length r.objects) c.requires.empty in
    some_weaker (g.F.Files.told c.args.files.now)
    (λ (store : Store). Loads {T = Unit {0}} (with_needed (fetch_from store) c.args.roster.now.dir [] c.args.main.now) c.args.roster.now c.load.new.self (Ok tt))
    (λ (store : Store). StartsWith (started (fetch_from store) c.args.roster.now.dir c.args.main.now c.args.rule) c.relocate_from.new.self (Ok look_up))
    (λ store h. start_ok (fetch_from store) c.args.roster.now.dir c.args.main.now c.args.rule c.args.roster.now c.load.new.self c.relocate_from.new.self look_up h.0 h.1 none
    (subst (λ (k : ℕ). Holds k c.args.roster.now c.load.new.self h.0) zero h.2) c.load.ensures.sound c.in_ok-load.ensures.closed c.in_ok-load.ensures.extends.dir refl c.len.ensures.len c.new.ensures.items
    c.in_ok-relocate_from.ensures.relocates c.relocate_from.ensures.stays) said

pub returns-clause-session : goal.returns-clause-session
returns-clause-session g c =
    let look_up : LookUp = record { rule = c.args.rule; start_count = c.len.result; openings = c.new.result } in
    made_start c.load.new.self c.relocate_from.new.self look_up c.relocate_from.ensures.sound c.in_ok-load.ensures.closed c.relocate_from.ensures.stays (omega (arith, c.in_ok-load.ensures.more)) c.len.ensures.len c.new.ensures.items
    c.in_ok-relocate_from.ensures.owned c.in_ok-relocate_from.ensures.read
