use Rattle.std.proofs.Common.{◌≡◌, ◌-◌, length}
use Rattle.cap_image.specs.Records.{add_record, repeated, records_of, AreRecords}
use Rattle.cap_image.proofs.records.read_records.Given as goal

abbrev pub invariant-loop-i : goal.invariant-loop-i
invariant-loop-i l = record {
  so_far : repeated (add_record l.bytes) (l.count - l.i) l.records ≡ records_of l.bytes l.count;
  sound : AreRecords l.bytes l.records;
  count : length l.records.items ≡ l.i;
}
