use Rattle.std.proofs.Common.{◌≡◌, ◌-◌, ◌<◌, ◌≤◌, length, get_or, arith}
use Rattle.cap_layout.proofs.MarkSteps.{marks_new, marks_same}
use Rattle.cap_layout.proofs.marks.distinct.Goals as goal
use Rattle.cap_layout.proofs.marks.distinct.Goals.{then-sorted-i+in_ok-push-2, else-sorted-i}

pub loop-i-preserved : goal.loop-i-preserved
loop-i-preserved c =
    let xs = c.args.sorted.now in
    let inside : c.loop-i.i < length xs = omega (arith, c.loop-i-test.true) in
    let order : get_or xs (c.loop-i.i - 1) 0 ≤ get_or xs c.loop-i.i 0 = c.requires (c.loop-i.i - 1) c.loop-i.i 0 (omega arith) inside in
    elim c.if-sorted-i.branch [
      | then-sorted-i+in_ok-push-2 w ↦ rw (w.marks-is, w.in_ok-push-2.ensures.items) (marks_new xs c.loop-i.marks.items c.loop-i.i inside c.loop-i.invariant.0 c.loop-i.invariant.1 w.if-sorted-i.true)
      | else-sorted-i w ↦
          let same : get_or xs (c.loop-i.i - 1) 0 ≡ get_or xs c.loop-i.i 0 = omega (arith, order, w.if-sorted-i.false) in
          rw w.marks-is (marks_same xs c.loop-i.marks.items c.loop-i.i inside c.loop-i.invariant.0 c.loop-i.invariant.1 same)
    ]
