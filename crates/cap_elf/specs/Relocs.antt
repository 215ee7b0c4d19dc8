-- The relocations of a shared object.
use Rattle.std.specs.Prelude.{ℕ, nat_le, List, ◌++◌, Result}
use Rattle.cap_base.specs.declared.check.Check.TheVariants.{RelocationSymbol}
use Rattle.cap_base.specs.declared.refusal.Fault.{Fault}
use Rattle.cap_elf.specs.declared.records.DynReloc.{DynReloc}
use Rattle.cap_elf.specs.declared.tables.Lists.{Lists}
use Rattle.cap_elf.specs.Records.{table, reloc_at}
use Rattle.cap_base.specs.Steps.{refuse, steps}

-- the relocations of both lists, in order
abbrev pub relocs_in : List ℕ → Lists → List DynReloc
relocs_in bytes lists = table (reloc_at bytes) lists.relocs.at 24 lists.relocs.count ++ table (reloc_at bytes) lists.jumps.at 24 lists.jumps.count

-- a relocation names one of so many symbols
unfoldable pub symbol_fits : ℕ → Unit {0} → DynReloc → Result (Unit {0}) Fault
symbol_fits symbols _ r = refuse (nat_le symbols r.symbol) RelocationSymbol r.at

-- each relocation names one of so many symbols
abbrev pub symbols_fit : ℕ → List DynReloc → Result (Unit {0}) Fault
symbols_fit symbols relocs = steps (symbol_fits symbols) tt relocs
