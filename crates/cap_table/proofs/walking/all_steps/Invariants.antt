use Rattle.std.proofs.Common.{◌≡◌, drop}
use Rattle.std.specs.List.{enumerate_from}
use Rattle.cap_base.specs.Steps.{steps}
use Rattle.cap_table.specs.Checks.{file_steps, walk_of}
use Rattle.cap_table.proofs.walking.all_steps.Given as goal

abbrev pub invariant-loop-file : goal.invariant-loop-file
invariant-loop-file l = steps (file_steps l.sources l.pieces.all) l.steps.items (drop l.file (enumerate_from 0 l.sources.rels)) ≡ walk_of l.sources l.pieces.all
