use Rattle.std.proofs.Common.{◌≡◌, drop}
use Rattle.std.specs.List.{find}
use Rattle.cap_elf.specs.Ends.{is_writable_at}
use Rattle.cap_elf.proofs.segments.Loads.writable_range.Given as goal

abbrev pub invariant-loop-segment : goal.invariant-loop-segment
invariant-loop-segment l = find (λ s. is_writable_at s l.address) (drop l.segment-index l.self.segments.items) ≡ find (λ s. is_writable_at s l.address) l.self.segments.items
