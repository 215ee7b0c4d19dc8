use Rattle.std.proofs.Common.{◌≡◌, ℕ, ◌<◌, List, length, get_or, subst, sym, ap, ◌∙◌, refl, arith}
use Rattle.std.specs.Prelude.{All, Option, Some, None, unwrap_or, IfSome}
use Rattle.cap_session.specs.Roster.{RosterValue, IsRoster, answerer_in}
use Rattle.cap_session.specs.Entering.{opening_in}
use Rattle.cap_session.specs.declared.refusal.Mode.{Mode}
use Rattle.cap_session.proofs.Trees.{closed-below, opening-below}
use Rattle.cap_session.proofs.opening.opening_of.Goals as goal

pub breadth-requires-clause-numbers : goal.breadth-requires-clause-numbers
breadth-requires-clause-numbers c =
    let roster : IsRoster c.args.roster.now = subst IsRoster c.roster.view_is c.roster.invariant.roster in
    rw (c.deps.ensures) (closed-below c.args.roster.now roster c.requires.closed)

pub returns-in_err-tree-clause-inside : goal.returns-in_err-tree-clause-inside
returns-in_err-tree-clause-inside c =
    opening-below c.args.roster.now c.args.name.now (subst IsRoster c.roster.view_is c.roster.invariant.roster) c.requires.some

pub returns-clause-inside : goal.returns-clause-inside
returns-clause-inside c =
    opening-below c.args.roster.now c.args.name.now (subst IsRoster c.roster.view_is c.roster.invariant.roster) c.requires.some
