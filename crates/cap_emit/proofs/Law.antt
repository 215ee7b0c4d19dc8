-- The parts of a layout with its own lists fit.
use Rattle.std.proofs.Common.{ℕ, List, Option, sym, subst}
use Rattle.cap_layout.specs.declared.piece.Piece.{Piece}
use Rattle.cap_layout.specs.Points.{Laid}
use Rattle.cap_table.specs.declared.target.Step.{Step}
use Rattle.cap_table.specs.Targets.{Named}
use Rattle.cap_table.specs.Planned.{planned}
use Rattle.cap_table.specs.Lists.{filled}
use Rattle.cap_table.specs.Bodies.{BodiesValue, AreLong}
use Rattle.cap_emit.specs.Spread.{AreApart}
use Rattle.cap_emit.specs.File.{chunks, PartsFit}
use Rattle.cap_emit.proofs.ByClass.{by_class}
use Rattle.cap_emit.proofs.Fitting.{AreSized, parts_fit}
use Rattle.cap_emit.proofs.Listed.{laid_is, plan_is, lists_sized, bytes_short}

sized_by_plan : (named : Named) (pieces : List Piece) (needed : List (List ℕ)) (soname : Option (List ℕ)) (steps : List Step) (laid : Laid) (bodies : BodiesValue) →
    AreLong pieces (planned named pieces needed soname steps) bodies → AreSized (filled named (planned named pieces needed soname steps) laid) bodies (planned named pieces needed soname steps).sizes
unfolding planned
sized_by_plan = lists_sized

pub they_fit : PartsFit
they_fit named laid table bodies pieces lists long flags entry =
    let ps = laid.pieces.all in
    let needed = lists.plan.0 in
    let soname = lists.plan.1 in
    let found = plan_is named ps needed soname table.plan lists.plan.2 in
    let made = planned named ps needed soname found.0 in
    let sized : AreSized (filled named table.plan laid) bodies table.plan.sizes =
    subst (λ p. AreSized (filled named p laid) bodies p.sizes) found.1 (sized_by_plan named ps needed soname found.0 laid bodies (subst (λ p. AreLong ps p bodies) (sym found.1) long)) in
    let listed : AreSized table bodies table.plan.sizes = subst (λ t. AreSized t bodies table.plan.sizes) (sym lists.filled_as) sized in
    subst (λ l. AreApart 0 (chunks l table bodies flags entry)) (laid_is named.rels laid.pieces table.plan.sizes laid lists.layout)
    (parts_fit named.rels laid.pieces table.plan.sizes table bodies flags entry (by_class named.rels named.table laid.pieces pieces) (bytes_short ps table.plan bodies long) listed)
