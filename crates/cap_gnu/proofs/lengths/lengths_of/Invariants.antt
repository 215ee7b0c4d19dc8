use Rattle.std.proofs.Common.{◌≡◌, length}
use Rattle.cap_gnu.specs.Lengths.{AreLengthsFrom}
use Rattle.cap_gnu.proofs.lengths.lengths_of.Given as goal

abbrev pub invariant-loop-k : goal.invariant-loop-k
invariant-loop-k l = record {
  long : length l.lengths.items ≡ length l.words;
  entered : AreLengthsFrom l.k l.words l.lengths.items;
}
