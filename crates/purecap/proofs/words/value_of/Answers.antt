use Rattle.std.proofs.Common.{refl}
use Rattle.clap.specs.Words.{found_of}
use Rattle.purecap.proofs.Parsing.{value_read}
use Rattle.purecap.proofs.words.value_of.Goals as goal

pub returns : goal.returns
returns c = rw c.unwrap_or.ensures (value_read (found_of c.args.matches.now) c.args.id.now c.get_str.result _ refl c.get_str.ensures)
