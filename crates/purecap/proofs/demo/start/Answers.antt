use Rattle.cap_base.specs.MemFiles.{store_in}
use Rattle.purecap.proofs.DemoSteps.{start_begins, start_halts}
use Rattle.purecap.proofs.demo.start.Goals as goal

pub returns-in-Ok-clause-begins : goal.returns-in-Ok-clause-begins
returns-in-Ok-clause-begins c = start_begins (store_in c.args.files.now) c.in-Ok.session c.in-Ok.ensures.state c.in-Ok.ensures.dir c.in-Ok.ensures.rule

pub returns-in-Err-clause-begins : goal.returns-in-Err-clause-begins
returns-in-Err-clause-begins c = start_halts (store_in c.args.files.now) c.in-Err.refusal c.halt_by.result c.in-Err.ensures.state c.halt_by.ensures
