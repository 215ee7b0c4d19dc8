use Rattle.std.proofs.Common.{◌≡◌, [], fold, drop}
use Rattle.cap_table.specs.Gathered.{with_needed}
use Rattle.cap_table.proofs.gathering.needed.Given as goal

abbrev pub invariant-loop-step : goal.invariant-loop-step
invariant-loop-step l = fold (with_needed l.need l.sources) l.targets (drop l.step-index l.steps) ≡ fold (with_needed l.need l.sources) [] l.steps
