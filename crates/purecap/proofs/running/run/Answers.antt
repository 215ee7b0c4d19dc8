use Rattle.purecap.proofs.Answered.{answered}
use Rattle.purecap.proofs.Causes.{causes_of}
use Rattle.purecap.proofs.ExactRuns.{exact_run}
use Rattle.purecap.proofs.running.run.Goals as goal

pub returns-clause-answers : goal.returns-clause-answers
returns-clause-answers g c = answered _ _ _ _ _ _ c.perform.ensures

pub returns-clause-causes : goal.returns-clause-causes
returns-clause-causes g c = causes_of _ _ _ _ _ _ c.perform.ensures

pub returns-clause-exact : goal.returns-clause-exact
returns-clause-exact g c = exact_run c.exact_laws.ensures _ _ _ _ _ _ c.perform.ensures

pub returns-clause-image : goal.returns-clause-image
returns-clause-image g c = c.image_laws.ensures _ _ _ _ _ _ c.perform.ensures

pub returns-clause-claim : goal.returns-clause-claim
returns-clause-claim g c = c.claim_laws.ensures _ _ _ _ _ _ c.perform.ensures
