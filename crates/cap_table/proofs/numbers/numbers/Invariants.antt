use Rattle.std.proofs.Common.{◌≡◌, drop, length}
use Rattle.cap_table.specs.Numbers.{AreNumbersFrom}
use Rattle.cap_table.proofs.numbers.numbers.Given as goal

abbrev pub invariant-loop-k : goal.invariant-loop-k
invariant-loop-k l = record {
  numbers : AreNumbersFrom l.k (drop l.k l.rows) l.by_row.items;
  len : length l.by_row.items ≡ l.fn.count;
}
