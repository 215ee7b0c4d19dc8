-- What holds of each plan that passed its checks, and of the layout that was made of it.
use Rattle.std.specs.Prelude.{◌≡◌, ℕ, ℤ, ◌+◌, ◌*◌, ◌^◌, ◌<◌, ◌≤◌, true, false, if◌then◌else◌, List, length, All, IsTrue}
use Rattle.cap_base.specs.Field.{number_bytes}
use Rattle.cap_elf.specs.Classes.{is_bss}
use Rattle.cap_elf.specs.RelObject.{RelObject, file_of, section_of, has_content}
use Rattle.cap_layout.specs.declared.piece.Piece.{Piece}
use Rattle.cap_layout.specs.Pieces.{piece_of, holds_field}
use Rattle.cap_layout.specs.Points.{Laid}
use Rattle.cap_table.specs.declared.target.Step.{Step}
use Rattle.cap_table.specs.Kinds.{width_of, is_accepted}
use Rattle.cap_table.specs.declared.target.Target.{Target}
use Rattle.cap_table.specs.Targets.{Named, is_fixed, fixed_value}
use Rattle.cap_table.specs.Bodies.{zeros}
use Rattle.cap_table.specs.Checks.{reloc_of}
use Rattle.cap_table.specs.Planned.{Planned}

-- a step is a relocation of an input: its kind may stand in its section, and its field lies in the step's piece
pub record IsStepOf (named : Named) (pieces : List Piece) (s : Step) : Type 0 where
  pub file : s.file < length named.rels
  pub index : s.index < length (file_of named.rels s.file).relocs
  pub piece : s.piece < length pieces
  pub accepted : is_accepted (section_of (file_of named.rels s.file) (reloc_of named.rels s).section).class (reloc_of named.rels s).kind ≡ true
  pub inside : holds_field s.file (reloc_of named.rels s).section (reloc_of named.rels s).offset (width_of (reloc_of named.rels s).kind) (piece_of pieces s.piece) ≡ true

-- the symbols have rows, the counts are in the limits, and the slots and the stubs end at 2 ^ 26 at most
pub record ArePlanned (named : Named) (laid : Laid) (plan : Planned) : Type 0 where
  pub rels : laid.rels ≡ named.rels
  pub steps : All (IsStepOf named laid.pieces.all) plan.steps
  pub rows : All (λ row. row < length named.table) plan.symbols
  pub relas_few : plan.sizes.relas ≤ 2 ^ 20
  pub cap_relocs_few : plan.sizes.cap_relocs ≤ 2 ^ 20
  pub slots_low : laid.parts.slots_at + 16 * length plan.slots ≤ 2 ^ 26
  pub stubs_low : laid.parts.stubs_at + 16 * length plan.stubs ≤ 2 ^ 26

-- a piece has bytes in the file: those of its section, and no fewer with its padding
pub record HasSource (rels : List RelObject) (p : Piece) : Type 0 where
  pub file : p.file < length rels
  pub section : p.place < length (file_of rels p.file).sections
  pub some : is_bss p.class ≡ false
  pub content : IsTrue (has_content (section_of (file_of rels p.file) p.place))
  pub within : p.start + p.size ≤ (section_of (file_of rels p.file) p.place).size
  pub end_high : p.start + p.size ≤ 2 ^ 62
  pub padded : p.size ≤ p.padded

-- the first eight bytes that a relocated field holds in the file
unfoldable pub first_held : Target → ℤ → List ℕ
first_held t addend = if is_fixed t then number_bytes 8 (fixed_value t addend) else zeros 8
