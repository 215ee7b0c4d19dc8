use Rattle.std.proofs.Common.{◌≡◌, ◌++◌, drop, map}
use Rattle.cap_table.specs.Lists.{tag_entry}
use Rattle.cap_table.proofs.dynamics.push.Given as goal

abbrev pub invariant-loop-tag : goal.invariant-loop-tag
invariant-loop-tag l =
    l.listed.items ++ map (tag_entry l.plan l.parts) (drop l.tag-index l.tags)
    ≡ l.fn.listed.items ++ map (tag_entry l.plan l.parts) l.tags
