use Rattle.std.proofs.Common.{sym, subst, ◌∙◌}
use Rattle.std.specs.Prelude.{slice_index}
use Rattle.std.specs.List.Sorted.{IsStrictlyIncreasing}
use Rattle.cap_reach.specs.Reach.{IsReach}
use Rattle.cap_reach.specs.Places.{AreReachedAt}
use Rattle.cap_reach.specs.Collecting.{placed}
use Rattle.cap_reach.proofs.Placed.{by_granule}
use Rattle.cap_reach.proofs.reaching.slots_reached.Goals as goal

pub of-requires : goal.of-requires
of-requires c =
    let found = subst (AreReachedAt c.args.granules.now c.args.words.now c.args.start) (sym c.deref.ensures.value) c.in_ok-places.ensures.reached in
    subst IsStrictlyIncreasing (sym c.in_ok-granules_at.ensures)
    (by_granule c.args.granules.now c.args.words.now c.args.start c.requires.ascending c.requires.as_many c.requires.start _ found).ascending

pub returns : goal.returns
returns c =
    let found = subst (AreReachedAt c.args.granules.now c.args.words.now c.args.start) (sym c.deref.ensures.value) c.in_ok-places.ensures.reached in
    subst (IsReach (placed c.args.granules.now c.args.words.now) (slice_index c.args.granules.now c.args.start)) (sym (c.of.ensures ∙ c.in_ok-granules_at.ensures))
    (by_granule c.args.granules.now c.args.words.now c.args.start c.requires.ascending c.requires.as_many c.requires.start _ found)
