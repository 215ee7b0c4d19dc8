use Rattle.cap_reach.specs.Work.{AreTaken}
use Rattle.cap_reach.proofs.work.ascending.Given as goal

abbrev pub invariant-loop-i : goal.invariant-loop-i
invariant-loop-i l = AreTaken l.next.items l.i l.found.items
