use Rattle.std.proofs.Common.{◌≡◌, map, take}
use Rattle.cap_layout.specs.Marked.{mark_lists}
use Rattle.cap_layout.proofs.cutting.all_marks.Given as goal

abbrev pub invariant-loop-rel : goal.invariant-loop-rel
invariant-loop-rel l = l.marks.items ≡ map mark_lists (take l.rel-index l.rels)
