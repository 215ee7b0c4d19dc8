use Rattle.std.proofs.Common.{◌≡◌, length, drop}
use Rattle.cap_map.specs.Stores.{with_segments}
use Rattle.cap_map.proofs.placing.store_segments.Given as goal

abbrev pub invariant-loop-segment : goal.invariant-loop-segment
invariant-loop-segment l = record {
  so_far : with_segments l.bytes l.memory (drop l.segment-index l.segments) ≡ with_segments l.bytes l.fn.memory l.segments;
  base : l.base ≡ l.memory.base;
  len : length l.memory.bytes ≡ length l.fn.memory.bytes;
}
