use Rattle.std.proofs.Common.{◌≡◌, ℕ, List, ap, subst}
use Rattle.std.specs.Prelude.{IfSome}
use Rattle.cap_base.specs.Outside.{Store}
use Rattle.cap_session.specs.Exact.{IsUnfitStart}
use Rattle.cap_session.specs.Loading.{fetch_from}
use Rattle.cap_session.specs.Refused.{IsRefusedBy}
use Rattle.cap_session.specs.Roster.{RosterValue}
use Rattle.cap_session.specs.State.{started}
use Rattle.cap_session.proofs.Apart.{roster-apart}
use Rattle.cap_session.proofs.Reaching.{some_weaker}
use Rattle.cap_session.proofs.Unfit.{start-by}
use Rattle.cap_session.proofs.session.Session.start.Goals as goal

pub returns-in-Ok-load_main-clause-apart : goal.returns-in-Ok-load_main-clause-apart
returns-in-Ok-load_main-clause-apart g c = roster-apart c.load_main.new.roster c.in-Ok-load_main.ensures.session.roster

pub returns-in-Err-clause-unfit : goal.returns-in-Err-clause-unfit
returns-in-Err-clause-unfit g c =
    let dir = ap (λ (r : RosterValue). r.dir) c.in-Ok-new.ensures in
    let laws = c.state_laws.ensures in
    some_weaker (g.F.Files.told c.args.files.now)
    (λ (store : Store). IsRefusedBy (started (fetch_from store) c.in-Ok-new.roster.dir c.args.main.now c.args.rule) c.in-Err.refusal c.in-Err.refusal.cause)
    (λ (store : Store). IsUnfitStart (fetch_from store) c.args.dir.now c.args.main.now c.args.rule c.in-Err.refusal)
    (λ store h. start-by laws.unfit laws.read store c.args.dir.now c.args.main.now c.args.rule c.in-Err.refusal
    (subst (λ (d : List ℕ). IsRefusedBy (started (fetch_from store) d c.args.main.now c.args.rule) c.in-Err.refusal c.in-Err.refusal.cause) dir h))
    c.in-Err.ensures.state
