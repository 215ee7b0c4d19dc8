use Rattle.std.proofs.Common.{subst}
use Rattle.std.specs.Str.Parse.{ParsesUnsigned}
use Rattle.purecap.proofs.DemoAccepted.{numeral_read, numeral_large}
use Rattle.purecap.proofs.words.demo.numeral.Goals as goal

pub returns-in-Ok : goal.returns-in-Ok
returns-in-Ok c = numeral_read c.args.word.now c.requires c.parse.result c.in-Ok.number c.in-Ok.is c.parse.ensures.value.0

pub returns-in-Err : goal.returns-in-Err
returns-in-Err c = numeral_large c.args.word.now c.requires c.in-Err.field-0 (subst (λ r. ParsesUnsigned 32 10 c.args.word.now r) c.in-Err.is c.parse.ensures.value.0)
