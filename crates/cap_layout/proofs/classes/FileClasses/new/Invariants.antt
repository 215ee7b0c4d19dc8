use Rattle.std.proofs.Common.{◌≡◌, map, take}
use Rattle.cap_layout.proofs.classes.FileClasses.new.Given as goal

abbrev pub invariant-loop-section : goal.invariant-loop-section
invariant-loop-section l = l.classes.items ≡ map (λ s. s.class) (take l.section-index l.section-items)
