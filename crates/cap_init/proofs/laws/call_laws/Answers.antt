use Rattle.cap_init.proofs.Sentries.{all_are_calls}
use Rattle.cap_init.proofs.laws.call_laws.Goals as goal

pub returns : goal.returns
returns c = λ objects memories order. all_are_calls memories objects order
