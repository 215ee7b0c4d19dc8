use Rattle.std.proofs.Common.{◌≡◌, arith, length}
use Rattle.cap_reach.proofs.Paths.{begun, followed, are_reached, places_inside}
use Rattle.cap_reach.proofs.searching.places_reached.Goals as goal

pub all-init : goal.all-init
all-init c =
    let by = c.in_ok-find_one.ensures in
    let size : length c.find_one.new.work.next.items ≡ length c.args.granules.now = omega (arith, by.size, c.in_ok-work.ensures.size) in
    begun c.args.granules.now c.args.words.now c.args.start _ _ _ c.in_ok-work.ensures.none by.work size c.requires.start by.found

pub all-preserved : goal.all-preserved
all-preserved c =
    let by = c.in_ok-follow.ensures in
    followed c.args.granules.now c.args.words.now c.args.start _ _ _ _ c.all.at _ c.all.invariant (omega arith) c.index-place.ensures by.work by.size by.found

pub returns-clause-reached : goal.returns-clause-reached
returns-clause-reached c =
    are_reached c.args.granules.now c.args.words.now c.args.start _ _ _ c.all.at c.all.invariant (omega arith) c.in_ok-ascending.ensures.ascending c.in_ok-ascending.ensures.each

pub returns-clause-inside : goal.returns-clause-inside
returns-clause-inside c = places_inside c.args.granules.now c.args.words.now c.args.start _ c.requires.start (returns-clause-reached c)
