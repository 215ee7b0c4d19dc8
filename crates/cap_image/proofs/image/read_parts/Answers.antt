use Rattle.std.proofs.Common.{rules}
use Rattle.cap_image.specs.Bodies.{AreBodies}
use Rattle.cap_image.proofs.Sound.{is_image}
use Rattle.cap_image.proofs.image.read_parts.Goals as goal

pub invariant_of-result : goal.invariant_of-result
invariant_of-result c =
    let header = c.in_ok-header.header in
    let bodied : AreBodies header.version c.args.bytes.items header.count c.in_ok-records.records.items c.bodies.inside.items.items = search rules in
    (is_image c.args.bytes.items header.version header.count c.in_ok-records.records c.bodies.inside.items.items c.in_ok-records.ensures.count c.in_ok-header.ensures.few (search rules) bodied, bodied.inside)

pub returns-clause-sound : goal.returns-clause-sound
returns-clause-sound c =
    let header = c.in_ok-header.header in
    let bodied : AreBodies header.version c.args.bytes.items header.count c.in_ok-records.records.items c.bodies.inside.items.items = search rules in
    is_image c.args.bytes.items header.version header.count c.in_ok-records.records c.bodies.inside.items.items c.in_ok-records.ensures.count c.in_ok-header.ensures.few (search rules) bodied
