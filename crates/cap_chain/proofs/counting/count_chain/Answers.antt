use Rattle.std.proofs.Common.{rules, ◌≡◌, suc, ◌+◌, ◌-◌, arith, length}
use Rattle.std.proofs.lemmas.Bool.{ltb-true}
use Rattle.std.proofs.lemmas.List.Sums.{AllPass-from_list_all}
use Rattle.cap_chain.proofs.CountLemmas.{length_more, length_stop, places_more, places_stop}
use Rattle.cap_chain.proofs.counting.count_chain.Goals as goal

pub loop-step-preserved : goal.loop-step-preserved
loop-step-preserved c =
    let links = c.args.links.now in
    let one : length links - c.loop-step.step ≡ suc (length links - (c.loop-step.step + 1)) = omega (arith, c.loop-step-test.true) in
    record {
      inside = ltb-true _ _ (AllPass-from_list_all _ links c.requires.inside c.loop-step.i 0 c.loop-step.invariant.inside);
      long = search rules;
      count = length_more links (length links - c.loop-step.step) (length links - (c.loop-step.step + 1)) c.loop-step.i c.loop-step.step _ one c.if-i-eq0.false c.loop-step.invariant.count;
      places = places_more links (length links - c.loop-step.step) (length links - (c.loop-step.step + 1)) c.loop-step.i (c.loop-step.step + 1) c.loop-step.places.items _ one c.if-i-eq0.false c.loop-step.invariant.places;
    }

pub returns-then-i-eq0-clause-count : goal.returns-then-i-eq0-clause-count
returns-then-i-eq0-clause-count c = length_stop c.args.links.now (length c.args.links.now - c.loop-step.step) c.loop-step.i c.loop-step.step _ c.if-i-eq0.true c.loop-step.invariant.count

pub returns-then-i-eq0-clause-places : goal.returns-then-i-eq0-clause-places
returns-then-i-eq0-clause-places c = places_stop c.args.links.now (length c.args.links.now - c.loop-step.step) c.loop-step.i (c.loop-step.step + 1) c.loop-step.places.items _ c.if-i-eq0.true c.loop-step.invariant.places
