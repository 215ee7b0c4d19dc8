use Rattle.std.proofs.Common.{sym, ◌∙◌}
use Rattle.cap_intervals.proofs.Earlier.{against_stop, against_more}
use Rattle.cap_layout.specs.Cuts.{overlaps}
use Rattle.cap_layout.proofs.CutOverlaps.{same_test, agree_more}
use Rattle.cap_layout.proofs.overlap.search.Goals as goal

pub returns-then-branch : goal.returns-then-branch
returns-then-branch c =
    sym (against_stop (overlaps c.args.sections.now) c.args.symbols.now c.loop-symbol.symbol-index _ _ c.loop-symbol-test.true
    (sym (same_test c.args.sections.now c.loop-symbol.taken _ c.loop-symbol.invariant.agree _ _) ∙ sym c.in_ok-take_cut.ensures.value ∙ c.if-branch.true)
    c.loop-symbol.invariant.so_far)

pub loop-symbol-preserved : goal.loop-symbol-preserved
loop-symbol-preserved c = record {
  count = c.take_cut.ensures.count ∙ c.loop-symbol.invariant.count;
  agree = agree_more c.args.sections.now c.loop-symbol.taken c.take_cut.new.taken c.args.symbols.now c.loop-symbol.symbol-index _ c.loop-symbol-test.true c.loop-symbol.invariant.agree (c.in_ok-take_cut.ensures.taken c.if-branch.false);
  so_far = against_more (overlaps c.args.sections.now) c.args.symbols.now c.loop-symbol.symbol-index _ _ c.loop-symbol-test.true
      (sym (same_test c.args.sections.now c.loop-symbol.taken _ c.loop-symbol.invariant.agree _ _) ∙ sym c.in_ok-take_cut.ensures.value ∙ c.if-branch.false)
      c.loop-symbol.invariant.so_far;
}
