use Rattle.std.proofs.Common.{◌≡◌, ◌++◌, drop}
use Rattle.cap_table.specs.Lists.{entries_with}
use Rattle.cap_table.proofs.dynamics.push_offsets.Given as goal

abbrev pub invariant-loop-offset : goal.invariant-loop-offset
invariant-loop-offset l =
    l.listed.items ++ entries_with l.tag (drop l.offset-index l.offsets) ≡ l.fn.listed.items ++ entries_with l.tag l.offsets
