use Rattle.std.proofs.Common.{◌≡◌, drop, map, filter, fold, length}
use Rattle.cap_table.specs.Planned.{is_field, fields_of}
use Rattle.cap_table.specs.Bodies.{with_held, body_length}
use Rattle.cap_table.proofs.bodies.hold_fields.Given as goal

abbrev pub invariant-loop-step : goal.invariant-loop-step
invariant-loop-step l = record {
  value :
      fold (with_held l.sources l.layout.pieces.all) l.bodies.items (filter (is_field l.sources) (drop l.step-index l.step-items))
      ≡ fold (with_held l.sources l.layout.pieces.all) l.fn.bodies.items (fields_of l.sources l.plan.steps);
  long : map length l.bodies.items ≡ map body_length l.layout.pieces.all;
}
