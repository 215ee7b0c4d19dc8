use Rattle.std.proofs.Common.{◌≡◌, ◌*◌, ◌≤◌}
use Rattle.cap_image.specs.Words.{count_below}
use Rattle.cap_image.proofs.tags.count_tags.Given as goal

abbrev pub invariant-loop-byte : goal.invariant-loop-byte
invariant-loop-byte l = record {
  so_far : l.count ≡ count_below l.tags (8 * l.byte-index);
  small : l.count ≤ 8 * l.byte-index;
}
