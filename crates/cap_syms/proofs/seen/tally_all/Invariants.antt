use Rattle.std.proofs.Common.{◌≡◌, ℕ, ◌<◌, drop}
use Rattle.std.specs.Prelude.{fold}
use Rattle.std.specs.List.{enumerate_from}
use Rattle.cap_elf.specs.RelObject.{file_of}
use Rattle.cap_elf.specs.IsRelRead.{IsRelRead}
use Rattle.cap_syms.specs.Occurrences.{occurrences}
use Rattle.cap_syms.specs.Tally.{with_input, tallied}
use Rattle.cap_syms.proofs.seen.tally_all.Given as goal

-- the inputs that are left lead to the same rows, and those before were read
abbrev pub invariant-loop-file : goal.invariant-loop-file
invariant-loop-file l =
    (fold with_input l.seen (drop l.file (enumerate_from 0 l.rels)) ≡ tallied (occurrences l.rels))
    × ((k : ℕ) → k < l.file → IsRelRead (file_of l.rels k))
