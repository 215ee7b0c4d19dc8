use Rattle.std.proofs.Common.{◌≡◌, map}
use Rattle.std.specs.List.{range_with_len}
use Rattle.cap_layout.specs.Marked.{closed}
use Rattle.cap_layout.proofs.marks.all_ascending.Given as goal

abbrev pub invariant-loop-i : goal.invariant-loop-i
invariant-loop-i l = l.marks.items ≡ map (closed l.sections l.lists) (range_with_len 0 l.i)
