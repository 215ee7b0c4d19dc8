use Rattle.std.proofs.Common.{rules, ◌++◌, ◌≤◌, List, ℕ, length, sym, ap, ◌∙◌, arith}
use Rattle.cap_image.specs.Granules.{word_lines}
use Rattle.cap_image.proofs.Runs.{none_passed, not_back, passed_next, run_inside, lines_more, all_passed, no_lines}
use Rattle.cap_image.proofs.word_lines.push_word_lines.Goals as goal

pub loop-i-init : goal.loop-i-init
loop-i-init c = record {
  lines = sym (no_lines c.args.image.now c.args.text.now.items);
  passed = none_passed c.args.image.now c.args.granules.now;
}

pub slice_bounds-push_object_words-count : goal.slice_bounds-push_object_words-count
slice_bounds-push_object_words-count c =
    not_back c.args.image.now c.args.granules.now c.loop-i.i c.loop-i.at _ _ c.len-i-end.ensures.sound c.requires.tagged (search rules) (search rules) c.loop-i.invariant.passed c.granules_below-to.ensures.within c.granules_below-to.ensures.each

pub slice_bounds-push_object_words-start : goal.slice_bounds-push_object_words-start
slice_bounds-push_object_words-start c =
    let back : c.loop-i.at ≤ c.granules_below-to.result = slice_bounds-push_object_words-count c in
    let within : c.granules_below-to.result ≤ length c.args.granules.now = c.granules_below-to.ensures.within in
    let inside : c.loop-i.at ≤ length c.args.granules.now = omega (arith, back, within) in
    search rules

pub push_object_words-requires-clause-inside : goal.push_object_words-requires-clause-inside
push_object_words-requires-clause-inside c =
    run_inside c.args.image.now c.args.granules.now c.loop-i.i c.loop-i.at _ _ c.len-i-end.ensures.sound c.requires.tagged (search rules) (search rules) c.loop-i.invariant.passed c.granules_below-to.ensures.within c.granules_below-to.ensures.each

pub loop-i-preserved : goal.loop-i-preserved
loop-i-preserved c =
    let back : c.loop-i.at ≤ c.granules_below-to.result = not_back c.args.image.now c.args.granules.now c.loop-i.i c.loop-i.at _ _ c.len-i-end.ensures.sound c.requires.tagged (search rules) (search rules) c.loop-i.invariant.passed c.granules_below-to.ensures.within c.granules_below-to.ensures.each in
    record {
      lines = lines_more c.args.image.now c.args.granules.now c.args.text.now.items _ _ c.loop-i.at c.granules_below-to.result back c.loop-i.invariant.lines c.in_ok-push_object_words.ensures;
      passed = passed_next c.args.image.now c.args.granules.now c.loop-i.i c.loop-i.at _ _ c.len-i-end.ensures.sound c.requires.tagged (search rules) (search rules) c.loop-i.invariant.passed c.granules_below-to.ensures.within c.granules_below-to.ensures.each;
    }

pub returns : goal.returns
returns c =
    c.loop-i.invariant.lines
    ∙ ap (λ (xs : List ℕ). c.args.text.now.items ++ word_lines c.args.image.now xs) (all_passed c.args.image.now c.args.granules.now c.loop-i.i c.loop-i.at c.len-i-end.ensures.sound c.requires.tagged (omega arith) c.loop-i.invariant.passed)
