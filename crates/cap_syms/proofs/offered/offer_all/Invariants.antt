use Rattle.std.proofs.Common.{◌≡◌, drop}
use Rattle.std.specs.Prelude.{fold, zip}
use Rattle.cap_syms.specs.Tally.{with_choosable, with_choosables}
use Rattle.cap_syms.proofs.offered.offer_all.Given as goal

-- the symbols that are left lead to the same names
abbrev pub invariant-loop-i : goal.invariant-loop-i
invariant-loop-i l =
    fold with_choosable l.names (drop l.i (zip l.object.records.names l.object.records.symbols)) ≡ with_choosables l.fn.names l.object
