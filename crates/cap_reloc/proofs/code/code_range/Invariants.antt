use Rattle.std.proofs.Common.{◌≡◌, drop}
use Rattle.cap_fits.specs.Places.{code_range}
use Rattle.cap_reloc.specs.Hulls.{hull_from, fixed_from}
use Rattle.cap_reloc.proofs.code.code_range.Given as goal

abbrev pub invariant-loop-segment : goal.invariant-loop-segment
invariant-loop-segment l = hull_from l.range (fixed_from (drop l.segment-index l.fn.file.records.segments) l.fn.file.records.relro) ≡ code_range l.fn.file.records
