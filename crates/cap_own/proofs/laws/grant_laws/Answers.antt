use Rattle.cap_own.proofs.Granting.{IsEncodable-grant}
use Rattle.cap_own.proofs.laws.grant_laws.Goals as goal

pub returns : goal.returns
returns c = record {
  stands = λ g h end. c.encoding_laws.ensures.decodes _ _ _ _ _ _ (IsEncodable-grant g h end);
  fields = λ g h end. c.encoding_laws.ensures.fields_are _ _ _ _ _ _ (IsEncodable-grant g h end);
}
