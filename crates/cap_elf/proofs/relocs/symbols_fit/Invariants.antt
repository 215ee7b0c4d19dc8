use Rattle.std.proofs.Common.{◌≡◌, drop}
use Rattle.cap_base.specs.Steps.{steps}
use Rattle.cap_elf.specs.Relocs.{symbol_fits, symbols_fit}
use Rattle.cap_elf.proofs.relocs.symbols_fit.Given as goal

abbrev pub invariant-loop-reloc : goal.invariant-loop-reloc
invariant-loop-reloc l = steps (symbol_fits l.symbols) tt (drop l.reloc-index l.relocs) ≡ symbols_fit l.symbols l.relocs
