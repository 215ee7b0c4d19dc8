use Rattle.std.proofs.Common.{◌≡◌, ◌<◌, ℕ, List, ◌∷◌, ◌++◌, [], Some, length, map, sym, ap, ◌∙◌, subst, arith}
use Rattle.cap_session.specs.Closing.{needed_by}
use Rattle.cap_session.specs.Roster.{RosterValue, IsRoster, answerer_in}
use Rattle.cap_session.specs.RosterFields.{roster_of}
use Rattle.cap_session.proofs.RosterLemmas.{roster_enter}
use Rattle.cap_session.proofs.roster.Roster.enter.Goals as goal

pub invariant_of-self-2 : goal.invariant_of-self-2
invariant_of-self-2 c =
    let entered : IsRoster (record (roster_of c.self.inside) { deps = c.self.inside.deps ++ c.args.of.now ∷ [] }) =
    roster_enter (roster_of c.self.inside) c.args.of.now c.self.invariant.roster
    (subst (λ (r : RosterValue). length r.deps < length r.objects) (sym c.self.view_is) c.requires.inside)
    (subst (λ (r : RosterValue). map (answerer_in r) (needed_by r (length r.deps)) ≡ map Some c.args.of.now) (sym c.self.view_is) c.requires.answer) in
    record { roster = rw c.in_ok-push.ensures.ok entered; start = c.self.invariant.start; limit = c.self.invariant.limit }

pub returns-clause-sound : goal.returns-clause-sound
returns-clause-sound c =
    let entered : IsRoster (record (roster_of c.self.inside) { deps = c.self.inside.deps ++ c.args.of.now ∷ [] }) =
    roster_enter (roster_of c.self.inside) c.args.of.now c.self.invariant.roster
    (subst (λ (r : RosterValue). length r.deps < length r.objects) (sym c.self.view_is) c.requires.inside)
    (subst (λ (r : RosterValue). map (answerer_in r) (needed_by r (length r.deps)) ≡ map Some c.args.of.now) (sym c.self.view_is) c.requires.answer) in
    rw c.in_ok-push.ensures.ok entered
