use Rattle.std.proofs.Common.{◌≡◌, drop}
use Rattle.std.specs.Prelude.{fold}
use Rattle.cap_syms.specs.Tally.{noted_if_outside, symbols_in, with_input}
use Rattle.cap_syms.proofs.seen.Seen.note_input.Given as goal

-- the symbols that are left lead to the same rows
abbrev pub invariant-loop-i : goal.invariant-loop-i
invariant-loop-i l =
    fold noted_if_outside l.self (drop l.i (symbols_in (l.fn.file, l.rel))) ≡ with_input l.fn.self (l.fn.file, l.rel)
