use Rattle.std.proofs.Common.{◌≡◌, ℕ, ◌<◌, List, length, get_or, subst, sym, ap, ◌∙◌, refl, arith}
use Rattle.cap_session.specs.Roster.{RosterValue, records_in}
use Rattle.cap_session.specs.Binding.{objects_in, reloc_refusal, Tells}
use Rattle.cap_session.proofs.Trees.{scope-below}
use Rattle.cap_session.proofs.Refusals.{relocates_ok, relocates_err}
use Rattle.cap_session.proofs.roster.Roster.relocate_object.Goals as goal

pub relocate_one-requires-clause-scope : goal.relocate_one-requires-clause-scope
relocate_one-requires-clause-scope c =
    rw (c.deref-2.ensures.value, c.in-Ok.ensures, c.deref.ensures.value)
    (scope-below (length c.args.self.now.objects) c.is_symbolic-symbolic.result c.args.look_up.now.start_count c.args.look_up.now.openings.items c.args.i c.requires.index c.requires.start c.requires.trees)

pub returns-in-Ok-relocate_one-clause-relocates : goal.returns-in-Ok-relocate_one-clause-relocates
returns-in-Ok-relocate_one-clause-relocates c =
    let e = rw (c.deref.ensures.value, c.is_symbolic-symbolic.ensures.value) at (c.deref-2.ensures.value ∙ c.in-Ok.ensures) in
    relocates_ok c.args.look_up.now.rule (objects_in c.args.self.now) c.args.look_up.now.start_count c.args.look_up.now.openings.items c.args.i c.deref-2.result.now c.args.self.now.dir c.args.self.now c.relocate_one.new.self e c.in-Ok-relocate_one.ensures.rebinds

pub returns-clause-relocates : goal.returns-clause-relocates
returns-clause-relocates c =
    let e = rw (c.deref.ensures.value, c.is_symbolic-symbolic.ensures.value) at (c.deref-2.ensures.value ∙ c.in-Ok.ensures) in
    let t = subst (λ (r : RosterValue). Tells (reloc_refusal r.dir (objects_in r) c.args.i c.in-Err.refusal) c.in-Err.refusal c.open_refusal.result) c.in-Err.ensures.rebinds.1 c.open_refusal.ensures.tells in
    relocates_err c.args.look_up.now.rule (objects_in c.args.self.now) c.args.look_up.now.start_count c.args.look_up.now.openings.items c.args.i c.deref-2.result.now c.args.self.now.dir c.args.self.now c.relocate_one.new.self c.in-Err.refusal c.open_refusal.result e c.in-Err.ensures.rebinds t
