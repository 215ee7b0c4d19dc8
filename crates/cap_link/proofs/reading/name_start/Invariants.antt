use Rattle.std.proofs.Common.{◌≡◌, ◌+◌, ◌≤◌, not, length, take}
use Rattle.std.specs.List.{suffix_len}
use Rattle.cap_link.specs.Inputs.{is_slash}
use Rattle.cap_link.proofs.reading.name_start.Given as goal

abbrev pub invariant-loop-start : goal.invariant-loop-start
invariant-loop-start l =
    (l.start ≤ length l.word) × (l.start + suffix_len (λ b. not (is_slash b)) l.word ≡ length l.word + suffix_len (λ b. not (is_slash b)) (take l.start l.word))

abbrev pub decreases-loop-start : goal.decreases-loop-start
decreases-loop-start l = l.start
