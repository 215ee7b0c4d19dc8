use Rattle.std.proofs.Common.{◌≡◌, length, map, take, drop}
use Rattle.cap_chain.specs.Adopted.{chain_from}
use Rattle.cap_chain.specs.Counted.{entered_all}
use Rattle.cap_chain.proofs.counting.count_all.Given as goal

abbrev pub invariant-loop-b : goal.invariant-loop-b
invariant-loop-b l = record {
  long : length l.places.items ≡ length l.links;
  lengths : l.lengths.items ≡ map (λ w. length (chain_from l.links (length l.links) w)) (take l.b l.firsts);
  places : entered_all (λ w. chain_from l.links (length l.links) w) l.places.items (drop l.b l.firsts) ≡ entered_all (λ w. chain_from l.links (length l.links) w) l.fn.places.items l.firsts;
}
