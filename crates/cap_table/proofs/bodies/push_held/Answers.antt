use Rattle.std.proofs.Common.{◌∙◌, sym, ap, ℕ, List, ◌++◌, append_assoc, ℤ, to_z-of_z}
use Rattle.cap_table.specs.Bodies.{zeros}
use Rattle.cap_table.specs.Facts.{first_held}
use Rattle.cap_table.proofs.BodyHeld.{held_capability}
use Rattle.cap_table.proofs.bodies.push_held.Goals as goal

pub returns-in_ok-push_eight_zeros : goal.returns-in_ok-push_eight_zeros
returns-in_ok-push_eight_zeros c =
    let old = c.args.bytes.now.items in
    let first = first_held c.args.target.now c.args.addend in
    c.in_ok-push_eight_zeros.ensures
    ∙ ap (λ (bytes : List ℕ). bytes ++ zeros 8) (c.in_ok-extend_from_slice.ensures.items ∙ ap (λ (bytes : List ℕ). old ++ bytes) (c.first_bytes.ensures ∙ ap (λ (z : ℤ). first_held c.args.target.now z) (to_z-of_z c.ranges.addend)))
    ∙ append_assoc old first (zeros 8)
    ∙ ap (λ (bytes : List ℕ). old ++ bytes) (sym (held_capability c.args.kind c.args.target.now c.args.addend c.if-kind-eq-CAPABILITY.true))
