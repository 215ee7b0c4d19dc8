use Rattle.std.proofs.Common.{◌≡◌, ap, sym, ◌∙◌, arith, subst}
use Rattle.cap_own.specs.Interval.{Interval, Cover}
use Rattle.cap_own.specs.Cap.{Mapping}
use Rattle.cap_session.specs.Mappings.{spans_of}
use Rattle.cap_session.proofs.Covers.{AreLast, last_of}
use Rattle.cap_session.proofs.spans.give_last_back.Goals as goal

pub join-requires : goal.join-requires
join-requires c =
    let last = last_of c.args.space.now.start c.args.space.now.next c.args.pads.now.items c.pop.new.self.items c.pop.result c.unwrap-pad.result c.args.roots.now.items c.pop-2.new.self.items c.pop-2.result c.unwrap-root.result c.requires.count c.requires.covered c.pop.ensures.items c.unwrap-pad.ensures c.pop-2.ensures.items c.unwrap-root.ensures in
    last.joined ∙ ap (λ (i : Interval). i.base) (sym c.into_span.ensures)

pub give_back-requires-clause-last : goal.give_back-requires-clause-last
give_back-requires-clause-last c =
    let last = last_of c.args.space.now.start c.args.space.now.next c.args.pads.now.items c.pop.new.self.items c.pop.result c.unwrap-pad.result c.args.roots.now.items c.pop-2.new.self.items c.pop-2.result c.unwrap-root.result c.requires.count c.requires.covered c.pop.ensures.items c.unwrap-pad.ensures c.pop-2.ensures.items c.unwrap-root.ensures in
    let base = ap (λ (i : Interval). i.base) c.join.ensures.value in
    let len = ap (λ (i : Interval). i.len) c.join.ensures.value in
    let more = ap (λ (i : Interval). i.len) c.into_span.ensures in
    omega (arith, last.joined, last.«end», base, len, more)

pub give_back-requires-clause-own : goal.give_back-requires-clause-own
give_back-requires-clause-own c =
    let last = last_of c.args.space.now.start c.args.space.now.next c.args.pads.now.items c.pop.new.self.items c.pop.result c.unwrap-pad.result c.args.roots.now.items c.pop-2.new.self.items c.pop-2.result c.unwrap-root.result c.requires.count c.requires.covered c.pop.ensures.items c.unwrap-pad.ensures c.pop-2.ensures.items c.unwrap-root.ensures in
    let base = ap (λ (i : Interval). i.base) c.join.ensures.value in
    omega (arith, last.order, base)

pub returns-clause-covered : goal.returns-clause-covered
returns-clause-covered c =
    let last = last_of c.args.space.now.start c.args.space.now.next c.args.pads.now.items c.pop.new.self.items c.pop.result c.unwrap-pad.result c.args.roots.now.items c.pop-2.new.self.items c.pop-2.result c.unwrap-root.result c.requires.count c.requires.covered c.pop.ensures.items c.unwrap-pad.ensures c.pop-2.ensures.items c.unwrap-root.ensures in
    let base = ap (λ (i : Interval). i.base) (sym c.join.ensures.value) in
    rw c.give_back.ensures.value (subst (λ x. Cover c.args.space.now.start (spans_of c.pop.new.self.items c.pop-2.new.self.items) x) base last.covered)
