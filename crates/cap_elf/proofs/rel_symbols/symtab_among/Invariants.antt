use Rattle.std.proofs.Common.{◌≡◌, length, drop}
use Rattle.cap_base.specs.Steps.{steps}
use Rattle.cap_elf.specs.RelSymbols.{IsSymtabInside, symtab_view, symtab_step, symtab_in}
use Rattle.cap_elf.proofs.rel_symbols.symtab_among.Given as goal

abbrev pub invariant-loop-header : goal.invariant-loop-header
invariant-loop-header l = record {
  so_far : steps (symtab_step l.bytes l.headers) (symtab_view l.bytes l.symtab) (drop l.header-index l.headers) ≡ symtab_in l.bytes l.headers;
  inside : IsSymtabInside (length l.bytes) l.symtab;
}
