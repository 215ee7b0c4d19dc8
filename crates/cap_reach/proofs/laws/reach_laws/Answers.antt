use Rattle.cap_reach.proofs.Same.{one_reach, least_reach}
use Rattle.cap_reach.proofs.Steps.{reach_computed}
use Rattle.cap_reach.proofs.Rows.{AreReached, worked_rows}
use Rattle.cap_reach.proofs.laws.reach_laws.Goals as goal

-- a file of rows is proved where an answer names it
pub returns : goal.returns
returns c =
    let rows : AreReached = worked_rows in
    record {
      one = one_reach;
      least = least_reach;
      computed = reach_computed;
    }
