use Rattle.std.proofs.Common.{◌≡◌, drop}
use Rattle.cap_base.specs.Steps.{steps}
use Rattle.cap_syms.specs.declared.tally.Tally.{Tally}
use Rattle.cap_syms.specs.Tally.{second_from, refuse_this}
use Rattle.cap_base.specs.Steps.{each}
use Rattle.cap_syms.proofs.table.refuse_seconds.Given as goal

-- the names that are left decide
abbrev pub invariant-loop-tally : goal.invariant-loop-tally
invariant-loop-tally l =
    steps (λ _ (t : Tally). refuse_this l.rels (second_from t)) tt (drop l.tally-index l.tallies) ≡ each (λ t. refuse_this l.rels (second_from t)) l.tallies
