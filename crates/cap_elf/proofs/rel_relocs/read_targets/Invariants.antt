use Rattle.std.proofs.Common.{◌≡◌, ◌≤◌, ◌+◌, ◌*◌, drop}
use Rattle.std.specs.Prelude.{All, IfSome}
use Rattle.cap_base.specs.Steps.{steps}
use Rattle.cap_elf.specs.RelRelocs.{target_step, targets_of}
use Rattle.cap_elf.proofs.rel_relocs.read_targets.Given as goal

abbrev pub invariant-loop-header : goal.invariant-loop-header
invariant-loop-header l = record {
  so_far : steps (target_step l.file_len l.headers) l.targets.items (drop l.header-index l.headers) ≡ targets_of l.file_len l.headers l.sections;
  inside : All (λ t. IfSome t.relocs (λ p. p.at + 24 * p.count ≤ l.file_len)) l.targets.items;
}
