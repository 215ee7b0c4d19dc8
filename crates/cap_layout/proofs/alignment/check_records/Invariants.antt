use Rattle.std.proofs.Common.{◌≡◌, drop}
use Rattle.cap_base.specs.Steps.{steps, each}
use Rattle.cap_layout.specs.Laid.{is_aligned}
use Rattle.cap_layout.proofs.alignment.check_records.Given as goal

abbrev pub invariant-loop-reloc : goal.invariant-loop-reloc
invariant-loop-reloc l =
    steps (λ _ r. is_aligned l.layout l.file r) tt (drop l.reloc-index l.relocs) ≡ each (is_aligned l.layout l.file) l.relocs
