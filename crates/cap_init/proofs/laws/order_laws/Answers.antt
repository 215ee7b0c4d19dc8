use Rattle.cap_init.proofs.Reached.{is_reached, stands, stands_before, stands_once}
use Rattle.cap_init.proofs.laws.order_laws.Goals as goal

pub returns-clause-once : goal.returns-clause-once
returns-clause-once c = stands_once

pub returns-clause-reached : goal.returns-clause-reached
returns-clause-reached c = λ deps from to i some. (is_reached deps from to i, stands deps from to i some)

pub returns-clause-needed : goal.returns-clause-needed
returns-clause-needed c = stands_before
