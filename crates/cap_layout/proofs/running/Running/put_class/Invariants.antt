use Rattle.std.proofs.Common.{◌≡◌, ◌≤◌, drop}
use Rattle.cap_base.specs.Steps.{steps}
use Rattle.cap_layout.specs.Running.{with_one}
use Rattle.cap_layout.proofs.running.Running.put_class.Given as goal

abbrev pub invariant-loop-piece : goal.invariant-loop-piece
invariant-loop-piece l = record {
  so_far : steps (with_one l.class) l.self (drop l.piece-index l.pieces) ≡ steps (with_one l.class) l.initial.self l.pieces;
  grows : l.initial.self.end ≤ l.self.end;
}
