use Rattle.std.proofs.Common.{◌≡◌, drop}
use Rattle.std.specs.List.{enumerate_from}
use Rattle.cap_base.specs.Steps.{each}
use Rattle.cap_layout.specs.Laid.{file_aligned}
use Rattle.cap_layout.proofs.alignment.check_files.Given as goal

abbrev pub invariant-loop-file : goal.invariant-loop-file
invariant-loop-file l =
    each (file_aligned l.layout) (enumerate_from l.file (drop l.file l.rels)) ≡ each (file_aligned l.layout) (enumerate_from 0 l.rels)
