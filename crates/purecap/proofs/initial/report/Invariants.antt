use Rattle.std.proofs.Common.{◌≡◌, map, take}
use Rattle.std.specs.List.{flat_map}
use Rattle.purecap.specs.Initial.{call_line}
use Rattle.purecap.proofs.initial.report.Given as goal

abbrev pub invariant-loop-call : goal.invariant-loop-call
invariant-loop-call l = l.text.items ≡ flat_map (call_line (map (λ name. name.0) l.names)) (take l.call-index l.calls)
