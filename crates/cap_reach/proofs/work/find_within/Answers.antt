use Rattle.std.proofs.Common.{IsTrue, false, ◌∙◌, refl}
use Rattle.cap_reach.proofs.Finds.{same_work, nothing, more_by_one, next_free, span_found}
use Rattle.cap_reach.proofs.work.find_within.Goals as goal

pub span-init : goal.span-init
span-init c = record {
  work = same_work _ _ _ c.requires.work c.first_free-at.ensures.jumps c.first_free-at.ensures.same;
  size = c.first_free-at.ensures.same.length ∙ c.requires.size;
  first = c.first_free-at.ensures.first;
  extends = nothing _ _ _ refl;
}

pub span-preserved : goal.span-preserved
span-preserved c =
    let inv = c.span.invariant in
    let within = c.span-test.ensures.0 refl in
    let one = c.find_one.ensures.work in
    let is = c.in_ok-find_one.ensures.found in
    let step = c.first_free-at-in-span.ensures in
    record {
      work = same_work _ _ _ one step.jumps step.same;
      size = step.same.length ∙ c.find_one.ensures.size ∙ inv.size;
      first = next_free _ _ _ _ _ _ _ _ inv.work one is inv.first step.same step.first;
      extends = more_by_one _ _ _ _ _ inv.extends is (within.0, (inv.first.not_before, within.1));
    }

pub returns-clause-found : goal.returns-clause-found
returns-clause-found c = record {
  extends = c.span.invariant.extends;
  whole = λ k lt p. span_found c.args.granules.now _ _ _ _ _ c.requires.ascending c.span.invariant.size c.span.invariant.work c.span.invariant.first (λ h. let f : IsTrue false = c.span-test.ensures.1 h in cc) k lt p;
}
