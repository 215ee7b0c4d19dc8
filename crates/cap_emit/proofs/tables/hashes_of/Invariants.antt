use Rattle.std.proofs.Common.{◌≡◌, map, take}
use Rattle.cap_names.specs.Hash.{system_v_hash_of}
use Rattle.cap_emit.proofs.tables.hashes_of.Given as goal

abbrev pub invariant-loop-symbol : goal.invariant-loop-symbol
invariant-loop-symbol l = l.hashes.items ≡ map system_v_hash_of (map (λ s. s.name) (take l.symbol-index l.symbols))
