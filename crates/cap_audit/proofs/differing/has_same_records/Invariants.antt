use lib.Pointwise.{pointwise}
use Rattle.std.proofs.Common.{◌≡◌, length, drop}
use Rattle.cap_audit.specs.Findings.{object_at, is_same_record}
use Rattle.cap_audit.proofs.differing.has_same_records.Given as goal

abbrev pub invariant-loop-i : goal.invariant-loop-i
invariant-loop-i l = record {
  count : length (object_at l.image l.k).words ≡ length (object_at l.wanted l.k).words;
  rest : pointwise is_same_record (drop l.i (object_at l.image l.k).words) (drop l.i (object_at l.wanted l.k).words) ≡ pointwise is_same_record (object_at l.image l.k).words (object_at l.wanted l.k).words;
}
