use Rattle.std.proofs.Common.{◌≡◌, drop, map, filter}
use Rattle.cap_table.specs.Planned.{is_field}
use Rattle.cap_table.specs.Lists.{field_want, field_wants}
use Rattle.cap_table.specs.Entered.{entered}
use Rattle.cap_table.proofs.entering.enter_fields.Given as goal

abbrev pub invariant-loop-step : goal.invariant-loop-step
invariant-loop-step l =
    entered l.numbers l.layout l.lists (map (field_want l.sources l.layout) (filter (is_field l.sources) (drop l.step-index l.step-items)))
    ≡ entered l.numbers l.layout l.fn.lists (field_wants l.sources l.plan l.layout)
