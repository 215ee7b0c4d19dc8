use Rattle.std.proofs.Common.{◌≡◌, ◌++◌, drop}
use Rattle.std.specs.Prelude.{map}
use Rattle.cap_init.specs.Calls.{calls_of}
use Rattle.cap_init.proofs.arrays.calls.Given as goal

abbrev pub invariant-loop-i : goal.invariant-loop-i
invariant-loop-i l =
    l.calls.items ++ calls_of (map (λ o. o.records) l.objects) l.memories (drop l.i-index l.order) ≡ calls_of (map (λ o. o.records) l.objects) l.memories l.order
