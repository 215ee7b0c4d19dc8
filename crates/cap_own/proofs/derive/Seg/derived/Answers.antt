use Rattle.cap_own.proofs.Granting.{IsGrant-narrowed_to}
use Rattle.cap_own.proofs.derive.Seg.derived.Goals as goal

pub invariant_of-result : goal.invariant_of-result
invariant_of-result c =
    let s = c.self.inside in
    IsGrant-narrowed_to (record { root = s.root.now; base = s.base; len = s.len; perms = s.perms.0; flag = s.flag }) c.args.base c.args.len c.args.perms.0 c.self.invariant
    (rw (← c.self.view_is) at c.requires.from) (rw (← c.self.view_is) at c.requires.to) (rw (← c.self.view_is) at c.requires.fewer) (rw (← c.self.view_is) at c.requires.code)
    c.requires.exact

pub returns-clause-sound : goal.returns-clause-sound
returns-clause-sound c = invariant_of-result c
