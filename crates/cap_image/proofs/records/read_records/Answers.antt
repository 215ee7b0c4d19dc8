use Rattle.std.proofs.Common.{rules}
use Rattle.cap_image.proofs.Intervals.{none_are}
use Rattle.cap_image.proofs.Repeated.{repeated_first}
use Rattle.cap_image.proofs.records.read_records.Goals as goal

pub loop-i-init : goal.loop-i-init
loop-i-init c = record {
  so_far = repeated_first _ _ _ c.args.count c.new-records.ensures;
  sound = none_are _ _ c.new-records.ensures;
  count = search rules;
}
