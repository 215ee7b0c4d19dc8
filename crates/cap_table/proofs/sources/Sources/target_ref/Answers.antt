use Rattle.std.proofs.Common.{arith, subst}
use Rattle.cap_table.specs.Targets.{Named}
use Rattle.cap_table.specs.Standing.{StandForAll}
use Rattle.cap_table.proofs.sources.Sources.target_ref.Goals as goal

pub index-requires : goal.index-requires
index-requires c =
    let all = subst (λ (named : Named). StandForAll named c.self.inside.targets.items c.self.inside.places.items) c.self.view_is c.self.invariant.1 in
    omega (arith, all.count, c.requires.file)
