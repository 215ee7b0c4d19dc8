use Rattle.cap_layout.proofs.PointFound.{found_holds}
use Rattle.cap_layout.proofs.points.find_near.Goals as goal

pub returns-clause-holds : goal.returns-clause-holds
returns-clause-holds c = found_holds _ _ _ _ _ c.find_near.ensures
