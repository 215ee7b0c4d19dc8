use Rattle.std.proofs.Common.{ℕ, ◌<◌, ◌++◌, ◌∙◌, ap, sym, refl, arith, length, get_or}
use Rattle.std.specs.Prelude.{map}
use Rattle.cap_scope.specs.Chosen.{object_at}
use Rattle.cap_init.specs.Calls.{calls_in}
use Rattle.cap_init.proofs.Listed.{memory_is, objects_more, objects_done, records_are, span_is}
use Rattle.cap_init.proofs.arrays.calls.Goals as goal

pub push_calls-requires : goal.push_calls-requires
push_calls-requires c =
    let i : ℕ = get_or c.args.order.now c.loop-i.i-index 0 in
    let lt : i < length c.args.objects.now = c.requires.numbers c.loop-i.i-index 0 (omega arith) in
    span_is c.args.objects.now c.args.memories.now i c.index-objects-place.result c.index-memories-place.result c.requires.spans lt c.index-objects-place.is c.index-memories-place.is

pub loop-i-preserved : goal.loop-i-preserved
loop-i-preserved c =
    let objects = c.args.objects.now in
    let memories = c.args.memories.now in
    let i : ℕ = get_or c.args.order.now c.loop-i.i-index 0 in
    let lt : i < length objects = c.requires.numbers c.loop-i.i-index 0 (omega arith) in
    let memory = memory_is objects memories i c.index-memories-place.result c.requires.spans lt c.index-memories-place.is in
    let more =
    c.in_ok-push_calls.ensures
    ∙ ap (λ o. c.loop-i.calls.items ++ calls_in i o c.index-memories-place.result) (sym (records_are objects i c.index-objects-place.result lt c.index-objects-place.is))
    ∙ ap (λ m. c.loop-i.calls.items ++ calls_in i (object_at (map (λ o. o.records) objects) i) m) (sym memory) in
    objects_more (map (λ o. o.records) objects) memories c.args.order.now c.loop-i.i-index i c.loop-i.calls.items c.push_calls.new.calls.items _ (omega arith) refl more c.loop-i.invariant

pub returns : goal.returns
returns c =
    objects_done (map (λ o. o.records) c.args.objects.now) c.args.memories.now c.args.order.now c.loop-i.i-index c.loop-i.calls.items _ c.loop-i-test.false c.loop-i.invariant
