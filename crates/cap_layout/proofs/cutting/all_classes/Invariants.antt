use Rattle.std.proofs.Common.{◌≡◌, map, take}
use Rattle.cap_layout.specs.PieceOrder.{section_classes}
use Rattle.cap_layout.proofs.cutting.all_classes.Given as goal

abbrev pub invariant-loop-rel : goal.invariant-loop-rel
invariant-loop-rel l = l.classes.items ≡ map section_classes (take l.rel-index l.rels)
