use Rattle.std.proofs.Common.{◌≡◌, map, take, length}
use Rattle.std.specs.Prelude.{fold}
use Rattle.cap_layout.specs.Marked.{start_of, with_cut}
use Rattle.cap_layout.proofs.marks.cut_ends.Given as goal

abbrev pub invariant-loop-symbol : goal.invariant-loop-symbol
invariant-loop-symbol l = record {
  count : length l.lists.items ≡ length l.sections;
  so_far : l.lists.items ≡ fold (with_cut l.sections) (map start_of l.sections) (take l.symbol-index l.symbols);
}
