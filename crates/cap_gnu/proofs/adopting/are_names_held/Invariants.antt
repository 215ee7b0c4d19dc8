use Rattle.std.proofs.Common.{◌≡◌, drop}
use Rattle.std.specs.List.{list_all, enumerate_from}
use Rattle.cap_gnu.specs.Adopted.{is_held}
use Rattle.cap_gnu.proofs.adopting.are_names_held.Given as goal

abbrev pub invariant-loop-i : goal.invariant-loop-i
invariant-loop-i l = list_all (is_held l.words) (drop l.i (enumerate_from 0 l.names)) ≡ list_all (is_held l.words) (enumerate_from 0 l.names)
