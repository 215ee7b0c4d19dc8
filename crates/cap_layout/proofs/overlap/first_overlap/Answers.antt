use Rattle.cap_layout.proofs.CutOverlaps.{ok_pairs}
use Rattle.cap_layout.proofs.overlap.first_overlap.Goals as goal

pub returns-clause-pairs : goal.returns-clause-pairs
returns-clause-pairs c = ok_pairs _ _ _ c.search.ensures
