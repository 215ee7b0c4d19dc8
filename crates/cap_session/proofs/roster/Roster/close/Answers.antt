use Rattle.std.proofs.Common.{◌≡◌, ℕ, ◌+◌, List, Option, length, sym, ap, ◌∙◌, subst, arith}
use Rattle.cap_base.specs.Outside.{Store}
use Rattle.cap_session.specs.Closing.{Goes}
use Rattle.cap_session.proofs.Closings.{behind_trans, goes_trans}
use Rattle.cap_session.proofs.roster.Roster.close.Goals as goal

pub returns-in_err-enter_deps-clause-behind : goal.returns-in_err-enter_deps-clause-behind
returns-in_err-enter_deps-clause-behind g c = behind_trans c.args.self.now c.loop-i.self c.enter_deps.new.self c.loop-i.invariant.behind c.enter_deps.ensures.behind

pub loop-i-preserved : goal.loop-i-preserved
loop-i-preserved g c =
    let old = c.args.self.now in
    let s = c.loop-i.self in
    let new = c.enter_deps.new.self in
    let inv = c.loop-i.invariant in
    let one = c.in_ok-enter_deps.ensures in
    let told = g.F.Files.told c.args.files.now in
    record {
      goes = goes_trans told old s new inv.behind.dir inv.goes (subst (λ (t : Option Store). Goes t s new) inv.told one.closes);
      behind = behind_trans old s new inv.behind one.behind;
      sound = one.sound;
      count = one.more ∙ ap (λ n. n + 1) inv.count;
      told = one.told ∙ inv.told;
      writing = one.writing ∙ inv.writing;
      write_faults = one.write_faults ∙ inv.write_faults;
      reads = one.reads ∙ inv.reads;
    }
