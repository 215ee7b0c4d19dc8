use Rattle.std.proofs.Common.{◌∙◌, ◌*◌, List, ap, length}
use Rattle.std.specs.List.{flat_map}
use Rattle.cap_table.specs.declared.target.Target.{Target}
use Rattle.cap_table.specs.Bodies.{zeros, slot_held}
use Rattle.cap_table.proofs.BodyRoom.{are_long}
use Rattle.cap_table.proofs.bodies.plain_planned.Goals as goal

pub returns-clause-long : goal.returns-clause-long
returns-clause-long c =
    are_long c.args.layout.now.pieces.all c.args.plan.now (record { pieces = c.hold_fields.new.bodies.items; stubs = c.in_ok-zeros.field-0.items; slots = c.in_ok-slots.field-0.items })
    c.in_ok-hold_fields.ensures.long
    (c.in_ok-zeros.ensures ∙ ap (λ (targets : List Target). zeros (16 * length targets)) c.stubs.ensures)
    (c.in_ok-slots.ensures ∙ ap (flat_map slot_held) c.slots.ensures)
