use Rattle.std.proofs.Common.{◌≡◌, drop}
use Rattle.cap_base.specs.Steps.{steps}
use Rattle.cap_elf.specs.RelRelocs.{names_symbol, name_symbols}
use Rattle.cap_elf.proofs.rel_relocs.name_symbols.Given as goal

abbrev pub invariant-loop-reloc : goal.invariant-loop-reloc
invariant-loop-reloc l = steps (names_symbol l.symbols) tt (drop l.reloc-index l.relocs) ≡ name_symbols l.symbols l.relocs
