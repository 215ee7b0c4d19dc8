use Rattle.std.proofs.Common.{◌+◌, ◌≤◌, ◌<◌, ◌-◌, List, length, sym, subst, ◌∙◌, arith}
use Rattle.std.specs.List.{AllWithin}
use Rattle.cap_intervals.specs.declared.interval.Interval.{Interval}
use Rattle.cap_intervals.proofs.Rising.{none_behind, empty_behind, none_starts, last_rising}
use Rattle.cap_intervals.proofs.ascending.Ascending.clashes.Goals as goal
use Rattle.cap_intervals.proofs.ascending.Ascending.clashes.Goals.{then-self-x-via-then-self-x, then-self-x-via-else-self-x+then-x}

pub returns-then-self-x : goal.returns-then-self-x
returns-then-self-x c =
    let old = c.args.self.now in
    let x = c.args.x in
    elim c.then-self-x.branch [
      | then-self-x-via-then-self-x w ↦ sym (none_behind old.items.items old.top old.below c.args.aliases x (omega (arith, w.if-self-x)))
      | then-self-x-via-else-self-x+then-x w ↦ sym (empty_behind old.items.items c.args.aliases x (omega (arith, w.if-x)))
    ]

pub returns-then-count-eq0 : goal.returns-then-count-eq0
returns-then-count-eq0 c =
    let x = c.args.x in
    let n = c.count_before-count.result in
    let above = subst (λ (l : List Interval). AllWithin (λ y. x.end ≤ y.start) l n (length l)) c.deref.ensures.value c.count_before-count.ensures.above in
    sym (none_starts c.args.self.now.items.items c.args.aliases x n c.if-count-eq0.true above)

pub returns : goal.returns
returns c =
    let xs = c.args.self.now.items.items in
    let x = c.args.x in
    let count = c.count_before-count.result in
    let counted = c.count_before-count.ensures in
    let same = c.deref.ensures.value in
    let bound = subst (λ (l : List Interval). count ≤ length l) same counted.bound in
    let before = subst (λ (l : List Interval). AllWithin (λ y. y.start < x.end) l 0 count) same counted.below in
    let behind = subst (λ (l : List Interval). AllWithin (λ y. x.end ≤ y.start) l count (length l)) same counted.above in
    let below : AllWithin (λ y. y.start < x.end) xs 0 ((count - 1) + 1) = λ k d le lt. before k d le (omega arith) in
    let above : AllWithin (λ y. x.end ≤ y.start) xs ((count - 1) + 1) (length xs) = λ k d le lt. behind k d (omega arith) lt in
    c.clashes.ensures ∙ last_rising xs c.args.self.now.solid c.args.self.now.apart c.args.aliases x (omega arith) (count - 1) (omega (arith, bound)) below above c.index.result.now c.index.ensures
