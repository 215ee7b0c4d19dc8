use Rattle.std.proofs.Common.{◌≡◌, drop}
use Rattle.cap_scope.specs.Queue.{IsSeen, grown}
use Rattle.cap_scope.proofs.queue.add_all.Given as goal

abbrev pub invariant-loop-d : goal.invariant-loop-d
invariant-loop-d l = record {
  rest : grown l.order.items (drop l.d-index l.numbers) ≡ grown l.fn.order.items l.numbers;
  seen : IsSeen l.seen l.order.items;
}
