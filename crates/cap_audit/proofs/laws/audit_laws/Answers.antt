use Rattle.cap_audit.proofs.Same.{none_where_same, none_where_written}
use Rattle.cap_audit.proofs.laws.audit_laws.Goals as goal

pub returns : goal.returns
returns c = record {
  same = none_where_same c.image_laws.ensures.accepted c.image_laws.ensures.accepted_objects;
  written = none_where_written c.image_laws.ensures.accepted c.image_laws.ensures.accepted_objects;
}
