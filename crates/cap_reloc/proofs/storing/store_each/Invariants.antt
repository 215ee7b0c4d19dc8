use Rattle.std.proofs.Common.{◌≡◌, All}
use Rattle.std.specs.Vec.Iter.{into_iter_items}
use Rattle.cap_reloc.specs.Planned.{IsSlotIn}
use Rattle.cap_reloc.specs.Stores.{with_each}
use Rattle.cap_reloc.proofs.storing.store_each.Given as goal

abbrev pub invariant-loop-p : goal.invariant-loop-p
invariant-loop-p l = record {
  can_next : (goal.iterator-loop-p).can_next l.p-iterator;
  is_finite : (goal.iterator-loop-p).is_finite l.p-iterator;
  so_far : with_each (into_iter_items l.p-iterator) l.memory ≡ with_each l.fn.planned.items l.fn.memory;
  inside : All (IsSlotIn l.memory) (into_iter_items l.p-iterator);
}
