use Rattle.std.proofs.Common.{◌≡◌, ◌<◌, ◌+◌, ◌++◌, ◌∙◌, ap, refl, arith, length, get_or}
use Rattle.std.proofs.lemmas.List.Elements.{All-append}
use Rattle.cap_init.proofs.Starts.{starts_ascend, groups_more}
use Rattle.cap_init.proofs.groups.initial_order.Goals as goal

pub order-requires-clause-some : goal.order-requires-clause-some
order-requires-clause-some c =
    let end : c.end_of_group.result ≡ get_or c.args.starts.now (c.loop-k.k + 1) (length c.args.deps.now) = c.end_of_group.ensures ∙ ap (get_or c.args.starts.now (c.loop-k.k + 1)) c.len.ensures in
    rw end (starts_ascend c.args.starts.now (length c.args.deps.now) c.loop-k.k c.requires (omega arith)).0

pub order-requires-clause-inside : goal.order-requires-clause-inside
order-requires-clause-inside c =
    let end : c.end_of_group.result ≡ get_or c.args.starts.now (c.loop-k.k + 1) (length c.args.deps.now) = c.end_of_group.ensures ∙ ap (get_or c.args.starts.now (c.loop-k.k + 1)) c.len.ensures in
    rw end (starts_ascend c.args.starts.now (length c.args.deps.now) c.loop-k.k c.requires (omega arith)).1

pub loop-k-preserved : goal.loop-k-preserved
loop-k-preserved c =
    let end : c.end_of_group.result ≡ get_or c.args.starts.now (c.loop-k.k + 1) (length c.args.deps.now) = c.end_of_group.ensures ∙ ap (get_or c.args.starts.now (c.loop-k.k + 1)) c.len.ensures in
    let more = c.in_ok-extend_from_slice.ensures.items ∙ ap (λ g. c.loop-k.all.items ++ g) c.deref.ensures.value in
    record {
      so_far = groups_more c.args.deps.now c.args.starts.now (length c.args.deps.now) c.loop-k.k (get_or c.args.starts.now c.loop-k.k 0) c.end_of_group.result c.loop-k.all.items c.in_ok-group.group.items c.extend_from_slice.new.self.items _ (omega arith) refl end c.in_ok-group.ensures.order more c.loop-k.invariant.so_far;
      inside = rw more (All-append (λ i. i < length c.args.deps.now) c.loop-k.all.items c.in_ok-group.group.items c.loop-k.invariant.inside c.in_ok-group.ensures.inside);
    }
