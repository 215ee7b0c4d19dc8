use Rattle.cap_layout.proofs.PlaceHeld.{is_held}
use Rattle.cap_layout.proofs.layout.place.Goals as goal

pub invariant_of-result : goal.invariant_of-result
invariant_of-result c =
    is_held c.args.rels.now c.args.pieces.now c.args.sizes.now c.all.ensures.sound c.requires.of_inputs c.all.ensures.order c.all.result.now c.all.ensures.all c.in_ok-running.running c.in_ok-running.parts c.in_ok-running.ensures.places
    c.into_addresses.result.items c.into_addresses.ensures.addresses c.in_ok-commons.commons c.into_addresses.ensures.low c.into_addresses.ensures.end_low c.in_ok-commons.ensures
