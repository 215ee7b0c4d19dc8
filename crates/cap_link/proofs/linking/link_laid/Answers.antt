use Rattle.cap_link.proofs.LinkedFacts.{lists_some, lists_few}
use Rattle.cap_link.proofs.linking.link_laid.Goals as goal

pub emit-requires-clause-fitting : goal.emit-requires-clause-fitting
emit-requires-clause-fitting c =
    c.emit_laws.ensures c.args.sources.now c.args.layout.now c.in_ok-lists.lists c.in_ok-bodies.bodies c.requires.pieces c.in_ok-lists.ensures.lists c.in_ok-bodies.ensures.long

pub emit-requires-clause-some : goal.emit-requires-clause-some
emit-requires-clause-some c = lists_some c.args.sources.now c.args.plan.now c.args.layout.now c.in_ok-lists.lists c.in_ok-lists.ensures.value

pub emit-requires-clause-few : goal.emit-requires-clause-few
emit-requires-clause-few c =
    lists_few c.args.sources.now c.args.layout.now.pieces.all c.args.plan.now c.args.layout.now c.in_ok-lists.lists c.requires.planned c.in_ok-lists.ensures.value
