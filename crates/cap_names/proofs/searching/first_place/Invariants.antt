use Rattle.std.proofs.Common.{◌-◌}
use Rattle.cap_names.specs.Keys.{IsWindow}
use Rattle.cap_names.proofs.searching.first_place.Given as goal

abbrev pub invariant-loop-part : goal.invariant-loop-part
invariant-loop-part l = IsWindow l.names l.keys (l.hash, l.name) l.part.0 l.part.1

abbrev pub decreases-loop-part : goal.decreases-loop-part
decreases-loop-part l = l.part.1 - l.part.0
