use Rattle.cap_layout.specs.ByClass.{AreSpans}
use Rattle.cap_layout.proofs.by_class.spans_of.Given as goal

abbrev pub invariant-loop-i : goal.invariant-loop-i
invariant-loop-i l = AreSpans l.spans.items l.pieces l.i
