use Rattle.std.proofs.Common.{◌+◌, length}
use Rattle.cap_reloc.specs.Wanted.{own}
use Rattle.cap_reloc.proofs.Planning.{IsAt}
use Rattle.cap_reloc.proofs.plan.plan_all.Given as goal

abbrev pub invariant-loop-entry : goal.invariant-loop-entry
invariant-loop-entry l = IsAt l.fn.loaded l.entry-index l.plan

abbrev pub invariant-loop-reloc : goal.invariant-loop-reloc
invariant-loop-reloc l = IsAt l.fn.loaded (length (own l.fn.loaded).cap_relocs + l.reloc-index) l.plan
