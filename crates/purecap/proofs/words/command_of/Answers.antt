use Rattle.purecap.proofs.Accepted.{accepted}
use Rattle.purecap.proofs.words.command_of.Goals as goal

pub returns-clause-accepted : goal.returns-clause-accepted
returns-clause-accepted c = accepted c.args.words.now c.named_command.result c.named_command.ensures
