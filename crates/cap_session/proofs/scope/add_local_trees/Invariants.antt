use Rattle.std.proofs.Common.{◌≡◌, ◌++◌, drop}
use Rattle.std.specs.Prelude.{flat_map, filter}
use Rattle.cap_session.specs.Scope.{reaches}
use Rattle.cap_session.proofs.scope.add_local_trees.Given as goal

abbrev pub invariant-loop-opened : goal.invariant-loop-opened
invariant-loop-opened l =
    l.scope.items ++ flat_map (λ o. o.tree) (filter (reaches l.i) (drop l.opened-index l.openings))
    ≡ l.fn.scope.items ++ flat_map (λ o. o.tree) (filter (reaches l.i) l.openings)
