use Rattle.std.proofs.Common.{rules, ◌++◌, ◌-◌, ap, ◌∙◌, arith}
use Rattle.std.specs.Prelude.{map}
use Rattle.cap_layout.specs.Pieces.{split_piece}
use Rattle.cap_layout.proofs.PiecePairs.{mapped-more, pairs-all}
use Rattle.cap_layout.proofs.making.add_between.Goals as goal

pub loop-i-preserved : goal.loop-i-preserved
loop-i-preserved c =
    mapped-more (split_piece c.args.file c.args.place c.args.section.now) c.args.marks.now c.loop-i.i c.args.all.now c.loop-i.all c.push.new.self c.split_piece.result (omega arith) (omega arith) (search rules) c.in_ok-push.ensures c.loop-i.invariant

pub returns : goal.returns
returns c =
    c.loop-i.invariant ∙ ap (λ ps. c.args.all.now ++ map (split_piece c.args.file c.args.place c.args.section.now) ps) (pairs-all c.args.marks.now (c.loop-i.i - 1) (omega arith))
