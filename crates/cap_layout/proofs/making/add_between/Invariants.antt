use Rattle.std.proofs.Common.{◌≡◌, ◌-◌, ◌++◌, take}
use Rattle.std.specs.Prelude.{map}
use Rattle.cap_layout.specs.Pieces.{split_piece}
use Rattle.cap_layout.proofs.PiecePairs.{pairs}
use Rattle.cap_layout.proofs.making.add_between.Given as goal

abbrev pub invariant-loop-i : goal.invariant-loop-i
invariant-loop-i l =
    l.all ≡ l.initial.all ++ map (split_piece l.file l.place l.section) (take (l.i - 1) (pairs l.marks))
