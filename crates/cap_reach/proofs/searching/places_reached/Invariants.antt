use Rattle.std.proofs.Common.{◌-◌, length}
use Rattle.cap_reach.specs.Places.{IsSearch}
use Rattle.cap_reach.proofs.searching.places_reached.Given as goal

abbrev pub invariant-all : goal.invariant-all
invariant-all l = IsSearch l.granules l.words l.start l.work.next.items l.work.found.items l.at

abbrev pub decreases-all : goal.decreases-all
decreases-all l = length l.granules - l.at
