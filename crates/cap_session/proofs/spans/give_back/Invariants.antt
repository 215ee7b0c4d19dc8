use Rattle.std.proofs.Common.{◌≡◌, ℕ, ◌≤◌, length, take}
use Rattle.cap_own.specs.Interval.{Cover}
use Rattle.cap_session.specs.Mappings.{spans_of}
use Rattle.cap_session.proofs.spans.give_back.Given as goal

-- the first of the spans are left, and fill the addresses up to the next free one
abbrev pub invariant-loop-pads : goal.invariant-loop-pads
invariant-loop-pads l = record {
  pads : l.pads.items ≡ take (length l.pads.items) l.fn.pads.items;
  roots : l.roots.items ≡ take (length l.pads.items) l.fn.roots.items;
  count : length l.pads.items ≡ length l.roots.items;
  some : l.fn.len ≤ length l.pads.items;
  fewer : length l.pads.items ≤ length l.fn.pads.items;
  covered : Cover l.space.start (spans_of l.pads.items l.roots.items) l.space.next;
  start : l.space.start ≡ l.fn.space.start;
  limit : l.space.limit ≡ l.fn.space.limit;
  lower : l.space.next ≤ l.fn.space.next;
}

abbrev pub decreases-loop-pads : goal.decreases-loop-pads
decreases-loop-pads l = length l.pads.items
