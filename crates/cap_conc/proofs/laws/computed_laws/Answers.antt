use Rattle.cap_conc.proofs.ComputedLemmas.{DecodesTo-only, is_exact-IsExact, IsRepresentableLength-only, IsRepresentableAlignment-only}
use Rattle.cap_conc.proofs.laws.computed_laws.Goals as goal

pub returns : goal.returns
returns c = record {
  fields = DecodesTo-only;
  exact = is_exact-IsExact;
  length = IsRepresentableLength-only;
  alignment = IsRepresentableAlignment-only;
}
