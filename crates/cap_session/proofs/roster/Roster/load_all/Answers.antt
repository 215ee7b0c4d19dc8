use Rattle.std.proofs.Common.{◌≡◌, Option, sym, subst}
use Rattle.std.proofs.lemmas.Result.{err_from_is_err_and}
use Rattle.cap_base.specs.Outside.{Store}
use Rattle.cap_session.specs.Closing.{Closes, next_path}
use Rattle.cap_session.proofs.Closings.{behind_added, behind_trans}
use Rattle.cap_session.proofs.Loads.{loads_close, more_added, refused_first}
use Rattle.cap_session.proofs.roster.Roster.load_all.Goals as goal

pub returns-in_err-load_one-clause-loads : goal.returns-in_err-load_one-clause-loads
returns-in_err-load_one-clause-loads g c =
    let p = err_from_is_err_and c.from_residual.result c.from_residual.ensures.1 in
    rw (p.1, p.2) (refused_first (g.F.Files.told c.args.files.now) c.args.name.now c.args.self.now c.in_err-load_one.field-0.0 c.len.ensures.sound c.in_err-load_one.ensures.adds.0)

pub returns-clause-loads : goal.returns-clause-loads
returns-clause-loads g c =
    let told = g.F.Files.told c.args.files.now in
    loads_close told c.args.name.now c.args.self.now c.load_one.new.self c.close.new.self c.close.result c.len.ensures.sound c.in_ok-load_one.ensures.adds
    (subst (λ (t : Option Store). Closes t c.load_one.new.self c.close.new.self c.close.result) c.in_ok-load_one.ensures.told c.close.ensures.closes) c.close.ensures.sound c.close.ensures.closed

pub returns-clause-behind : goal.returns-clause-behind
returns-clause-behind g c =
    behind_trans c.args.self.now c.load_one.new.self c.close.new.self
    (behind_added (g.F.Files.told c.args.files.now) (next_path c.args.self.now c.args.name.now) c.args.name.now c.args.self.now c.load_one.new.self c.in_ok-load_one.ensures.adds) c.close.ensures.behind
