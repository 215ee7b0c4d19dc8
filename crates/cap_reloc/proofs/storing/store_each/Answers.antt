use Rattle.std.specs.Vec.Iter.{into_iter_items}
use Rattle.cap_reloc.proofs.StoredPairs.{each_more, rest_inside}
use Rattle.cap_reloc.proofs.storing.store_each.Goals as goal

pub loop-p-preserved : goal.loop-p-preserved
loop-p-preserved c =
    let rest = into_iter_items c.next.new.self in
    let pairs = into_iter_items c.loop-p.p-iterator in
    let items = c.in-Some.ensures.steps.0 in
    let stored = c.store_one.ensures in
    record {
      can_next = tt;
      is_finite = tt;
      so_far = each_more c.loop-p.memory c.store_one.new.memory _ c.in-Some.p rest pairs items stored.value c.loop-p.invariant.so_far;
      inside = rest_inside c.loop-p.memory c.store_one.new.memory c.in-Some.p rest pairs items stored.base stored.len c.loop-p.invariant.inside;
    }
