use Rattle.std.proofs.Common.{◌≡◌, ◌+◌, ◌-◌, ◌<◌, length}
use Rattle.cap_chain.specs.Adopted.{chain_from}
use Rattle.cap_chain.specs.Counted.{entered}
use Rattle.cap_chain.proofs.counting.count_chain.Given as goal

-- the rest of the chain, which gives what the whole chain gives
abbrev pub invariant-loop-step : goal.invariant-loop-step
invariant-loop-step l = record {
  inside : l.i < length l.links;
  long : length l.places.items ≡ length l.links;
  count : l.step + length (chain_from l.links (length l.links - l.step) l.i) ≡ length (chain_from l.links (length l.links) l.from);
  places : entered (l.step + 1) l.places.items (chain_from l.links (length l.links - l.step) l.i) ≡ entered 1 l.fn.places.items (chain_from l.links (length l.links) l.from);
}
