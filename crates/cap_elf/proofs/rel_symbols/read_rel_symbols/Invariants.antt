use Rattle.std.proofs.Common.{◌≡◌, ◌+◌, ◌*◌, map}
use Rattle.cap_base.specs.Lists.{numbers_between}
use Rattle.cap_base.specs.Steps.{steps}
use Rattle.cap_elf.specs.RelSymbols.{rel_symbol_at, rel_symbol_step, rel_named_in, symtab_view}
use Rattle.cap_elf.proofs.rel_symbols.read_rel_symbols.Given as goal

abbrev pub invariant-loop-i : goal.invariant-loop-i
invariant-loop-i l = record {
  so_far : steps (rel_symbol_step l.strings l.sections) l.named.named (map (λ i. rel_symbol_at l.bytes (l.at + 24 * i)) (numbers_between l.i l.count)) ≡ rel_named_in l.bytes l.sections (symtab_view l.bytes l.fn.symtab);
  strings : l.named.strings ≡ l.strings;
}
