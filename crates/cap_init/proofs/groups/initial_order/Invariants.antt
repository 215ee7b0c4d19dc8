use Rattle.std.proofs.Common.{◌≡◌, ◌<◌, ◌++◌, All, drop, length}
use Rattle.cap_init.specs.Post.{init_order}
use Rattle.cap_init.proofs.groups.initial_order.Given as goal

abbrev pub invariant-loop-k : goal.invariant-loop-k
invariant-loop-k l = record {
  so_far : l.all.items ++ init_order l.deps (drop l.k l.starts) (length l.deps) ≡ init_order l.deps l.starts (length l.deps);
  inside : All (λ i. i < length l.deps) l.all.items;
}
