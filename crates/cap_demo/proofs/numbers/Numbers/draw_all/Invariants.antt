use Rattle.std.proofs.Common.{◌≡◌, ◌-◌, ◌++◌}
use Rattle.cap_demo.specs.Numbers.{after, draws}
use Rattle.cap_demo.proofs.numbers.Numbers.draw_all.Given as goal

abbrev pub invariant-loop-i : goal.invariant-loop-i
invariant-loop-i l =
    (l.values.items ++ draws (l.count - l.i) l.self ≡ draws l.count l.initial.self)
    × (after (l.count - l.i) l.self ≡ after l.count l.initial.self)
