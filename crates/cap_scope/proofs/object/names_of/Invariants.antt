use Rattle.std.proofs.Common.{◌≡◌, map, zip, take}
use Rattle.cap_scope.specs.Candidates.{defined_name}
use Rattle.cap_scope.proofs.object.names_of.Given as goal

-- the names of the symbols so far
abbrev pub invariant-loop-i : goal.invariant-loop-i
invariant-loop-i l = l.names ≡ map defined_name (take l.i (zip l.fn.file.records.symbols l.fn.file.records.names))
