use Rattle.cap_layout.proofs.PlaceStages.{walked}
use Rattle.cap_layout.proofs.segments.place_all.Goals as goal

pub returns : goal.returns
returns c = let both = walked _ _ _ c.walk.ensures in record { ends = both.0; places = both.1 }
