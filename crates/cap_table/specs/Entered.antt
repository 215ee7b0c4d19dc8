-- The descriptions and the relocations of the linked file, as fields are entered.
use Rattle.std.specs.Prelude.{ℕ, List, [], ◌++◌}
use Rattle.cap_elf.specs.declared.records.CapReloc.{CapReloc}
use Rattle.cap_elf.specs.declared.records.DynReloc.{DynReloc}
use Rattle.cap_layout.specs.Points.{Laid}
use Rattle.cap_table.specs.Lists.{Want, cap_relocs_of, relas_of}

pub record EnteredValue : Type 0 where
  pub cap_relocs : List CapReloc
  pub relas : List DynReloc

abbrev pub none_entered : EnteredValue
none_entered = record { cap_relocs = []; relas = [] }

-- with those of more fields; `rows` are those of the symbols
unfoldable pub entered : List ℕ → Laid → EnteredValue → List Want → EnteredValue
entered rows laid e ws = record { cap_relocs = e.cap_relocs ++ cap_relocs_of laid ws; relas = e.relas ++ relas_of rows laid ws }
