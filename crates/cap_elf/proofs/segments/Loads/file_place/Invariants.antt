use Rattle.std.proofs.Common.{◌≡◌, drop}
use Rattle.std.specs.List.{find}
use Rattle.cap_elf.specs.Ends.{holds}
use Rattle.cap_elf.proofs.segments.Loads.file_place.Given as goal

abbrev pub invariant-loop-segment : goal.invariant-loop-segment
invariant-loop-segment l = find (λ s. holds s l.address l.size) (drop l.segment-index l.self.segments.items) ≡ find (λ s. holds s l.address l.size) l.self.segments.items
