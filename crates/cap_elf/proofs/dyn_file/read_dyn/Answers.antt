use Rattle.cap_elf.specs.RecordsView.{records_view}
use Rattle.cap_elf.proofs.ReadLaw.{read_is}
use Rattle.cap_elf.proofs.dyn_file.read_dyn.Goals as goal

pub invariant_of-result : goal.invariant_of-result
invariant_of-result c = read_is c.args.bytes.now (records_view c.in-Ok.records) c.in-Ok.ensures

pub returns-in-Ok-clause-sound : goal.returns-in-Ok-clause-sound
returns-in-Ok-clause-sound c = read_is c.args.bytes.now (records_view c.in-Ok.records) c.in-Ok.ensures
