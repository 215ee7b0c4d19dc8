use Rattle.std.proofs.Common.{ap, arith}
use Rattle.cap_emit.proofs.Emitted.{dynamics_fit}
use Rattle.cap_emit.proofs.emitting.emit.Goals as goal

pub push_tables-requires-clause-dynamics : goal.push_tables-requires-clause-dynamics
push_tables-requires-clause-dynamics c =
    let from = ap (λ p. p.dynamic_at) c.parts-at.ensures in
    let to = ap (λ p. p.slots_at) c.parts-at.ensures in
    omega (arith, c, from, to, dynamics_fit c.args.layout.now c.args.lists.now c.args.bodies.now c.requires.fitting)
