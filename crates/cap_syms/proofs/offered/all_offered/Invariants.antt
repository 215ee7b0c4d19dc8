use Rattle.std.proofs.Common.{◌≡◌, [], drop}
use Rattle.std.specs.Prelude.{fold}
use Rattle.cap_syms.specs.Tally.{with_choosables}
use Rattle.cap_syms.proofs.offered.all_offered.Given as goal

-- the objects that are left lead to the same names
abbrev pub invariant-loop-object : goal.invariant-loop-object
invariant-loop-object l = fold with_choosables l.names (drop l.object-index l.dyns) ≡ fold with_choosables [] l.dyns
