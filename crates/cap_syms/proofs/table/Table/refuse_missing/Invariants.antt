use Rattle.std.proofs.Common.{◌≡◌, drop}
use Rattle.cap_base.specs.Steps.{steps, each}
use Rattle.cap_syms.specs.Resolved.{Resolved}
use Rattle.cap_syms.specs.Tally.{refuse_missing}
use Rattle.cap_syms.proofs.table.Table.refuse_missing.Given as goal

-- the names that are left decide
abbrev pub invariant-loop-i : goal.invariant-loop-i
invariant-loop-i l =
    steps (λ _ (r : Resolved). refuse_missing l.rels l.program l.offered r) tt (drop l.i l.self) ≡ each (refuse_missing l.rels l.program l.offered) l.self
