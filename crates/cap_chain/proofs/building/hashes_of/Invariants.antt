use Rattle.std.proofs.Common.{◌≡◌, map, take}
use Rattle.cap_names.specs.Hash.{system_v_hash_of}
use Rattle.cap_chain.proofs.building.hashes_of.Given as goal

abbrev pub invariant-loop-i : goal.invariant-loop-i
invariant-loop-i l = l.hashes.items ≡ map system_v_hash_of (map (λ p. p.0) (take l.i l.names))
