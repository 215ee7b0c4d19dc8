use Rattle.std.proofs.Common.{rules, length}
use Rattle.cap_gnu.proofs.RunLemmas.{none_entered}
use Rattle.cap_gnu.proofs.lengths.lengths_of.Goals as goal

pub loop-k-init : goal.loop-k-init
loop-k-init c = record {
  long = search rules;
  entered = none_entered c.args.words.now (length c.args.words.now) c.in_ok-lengths.lengths.items (search rules) (search rules);
}
