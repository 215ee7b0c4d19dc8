use Rattle.std.proofs.Common.{◌≡◌, length, take, drop}
use Rattle.cap_intervals.specs.Earlier.{first_after_seen, first_against}
use Rattle.cap_intervals.specs.Groups.{group_count}
use Rattle.cap_layout.specs.Cuts.{overlaps}
use Rattle.cap_layout.proofs.CutOverlaps.{Agree}
use Rattle.cap_layout.proofs.overlap.search.Given as goal

abbrev pub invariant-loop-symbol : goal.invariant-loop-symbol
invariant-loop-symbol l = record {
  count : group_count l.taken ≡ length l.sections;
  agree : Agree l.sections l.taken (take l.symbol-index l.symbols);
  so_far : first_after_seen (overlaps l.sections) (take l.symbol-index l.symbols) (drop l.symbol-index l.symbols) ≡ first_against (overlaps l.sections) l.symbols;
}
