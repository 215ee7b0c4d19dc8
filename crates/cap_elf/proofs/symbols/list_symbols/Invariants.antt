use Rattle.std.proofs.Common.{◌≡◌, drop, [], ◌∷◌}
use Rattle.cap_elf.specs.Listed.{listed_from}
use Rattle.cap_elf.specs.Symbols.{null_named}
use Rattle.cap_elf.proofs.symbols.list_symbols.Given as goal

abbrev pub invariant-loop-entry : goal.invariant-loop-entry
invariant-loop-entry l = listed_from l.strings l.named (drop l.entry-index l.entries) ≡ listed_from l.strings (null_named l.at ∷ []) l.entries
