-- What is counted of the linked file before it is planned, and the limits of the counts.
use Rattle.std.specs.Prelude.{◌≡◌, ℕ, ◌+◌, ◌^◌, ◌<◌, ◌≤◌, nat_lt, List, length, All, Result}
use Rattle.cap_base.specs.Steps.{◌>>◌, refuse, in_file}
use Rattle.cap_base.specs.declared.check.Check.{Check}
use Rattle.cap_base.specs.declared.check.Check.TheVariants.{SymbolCount, RelocationCount}
use Rattle.cap_base.specs.declared.refusal.Refusal.{Refusal}
use Rattle.cap_table.specs.declared.planning.Counts.{Counts}
use Rattle.cap_table.specs.declared.target.Step.{Step}
use Rattle.cap_table.specs.Targets.{Named}
use Rattle.cap_table.specs.Planned.{slots_of, stubs_of, exported, rela_count, cap_reloc_count}

-- more than 2 ^ 20 are refused
abbrev pub limit_of : ℕ → Check → Result (Unit {0}) Refusal
limit_of count check = in_file 0 (refuse (nat_lt (2 ^ 20) count) check 0)

-- the symbols with the null symbol, and the relocations of both lists
unfoldable pub limits_of : Named → List Step → Result (Unit {0}) Refusal
limits_of named steps =
    limit_of (1 + length (exported named.table)) SymbolCount
    >> limit_of (rela_count named (slots_of named steps) steps + cap_reloc_count named (slots_of named steps) steps) RelocationCount

-- the counts are those of these steps, and keep to the limits
pub record IsCounted (named : Named) (steps : List Step) (c : Counts) : Type 0 where
  pub symbols : c.symbols.items ≡ exported named.table
  pub rows : All (λ row. row < length named.table) c.symbols.items
  pub symbols_few : 1 + length c.symbols.items ≤ 2 ^ 20
  pub slots : c.slots ≡ slots_of named steps
  pub slots_few : length c.slots < 2 ^ 32
  pub stubs : c.stubs ≡ stubs_of named steps
  pub stubs_few : length c.stubs < 2 ^ 32
  pub relas : c.relas ≡ rela_count named (slots_of named steps) steps
  pub cap_relocs : c.cap_relocs ≡ cap_reloc_count named (slots_of named steps) steps
  pub relocs_few : c.relas + c.cap_relocs ≤ 2 ^ 20
