use Rattle.cap_session.specs.RosterFields.{roster_of}
use Rattle.cap_session.proofs.RosterLemmas.{pads_roots}
use Rattle.cap_session.proofs.roster.Roster.end.Goals as goal

pub give_back-requires-clause-count : goal.give_back-requires-clause-count
give_back-requires-clause-count c = pads_roots (roster_of c.self.inside) c.self.invariant.roster
