use Rattle.cap_elf.proofs.ReadLaw.{read_is}
use Rattle.cap_elf.proofs.ReadFields.{fields_are, number_is, sound_is}
use Rattle.cap_elf.proofs.laws.read_laws.Goals as goal

pub returns : goal.returns
returns c = record {
  dyn = read_is;
  rel = λ number bytes object file passed. sound_is bytes file.bytes_are file.long number object passed;
  rel_number = number_is;
  rel_fields = λ number bytes object file passed. fields_are bytes file.bytes_are number object passed;
}
