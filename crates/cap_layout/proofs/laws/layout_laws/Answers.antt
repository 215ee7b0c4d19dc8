use Rattle.cap_layout.proofs.CutPlaces.{layouts_are_exact, cuts_are_pieces}
use Rattle.cap_layout.proofs.laws.layout_laws.Goals as goal

pub returns-clause-exact : goal.returns-clause-exact
returns-clause-exact c = layouts_are_exact

pub returns-clause-cuts : goal.returns-clause-cuts
returns-clause-cuts c = cuts_are_pieces
