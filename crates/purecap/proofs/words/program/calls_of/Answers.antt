use Rattle.std.proofs.Common.{codes, refl}
use Rattle.clap.specs.Words.{found_of}
use Rattle.purecap.proofs.Parsing.{values_read, no_values_read}
use Rattle.purecap.proofs.words.program.calls_of.Goals as goal

pub returns-in-Some : goal.returns-in-Some
returns-in-Some c = rw (values_read (found_of c.args.matches.now) (codes "call") c.get_strs.result c.in-Some.words c.get_strs.ensures c.in-Some.is) c.read_calls.ensures

pub returns-in-None : goal.returns-in-None
returns-in-None c = rw (no_values_read (found_of c.args.matches.now) (codes "call") c.get_strs.result c.get_strs.ensures c.in-None.is, c.new.ensures.items) refl
