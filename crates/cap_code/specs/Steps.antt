-- What holds of each step of a plan, and of the inputs, the layout and the lists together.
use Rattle.std.specs.Prelude.{◌≡◌, ℕ, ◌+◌, ◌<◌, ◌≤◌, Bool, false, ◌||◌, ◌==◌, List, length, All, IsTrue}
use Rattle.cap_elf.specs.RelObject.{RelObject, file_of}
use Rattle.cap_layout.specs.declared.piece.Piece.{Piece}
use Rattle.cap_layout.specs.Pieces.{piece_of}
use Rattle.cap_table.specs.declared.target.Target.{Target}
use Rattle.cap_table.specs.declared.target.Step.{Step}
use Rattle.cap_table.specs.Kinds.{is_passed_over, width_of}
use Rattle.cap_table.specs.Checks.{reloc_of}
use Rattle.cap_table.specs.Bodies.{body_length, offset_in_piece}
use Rattle.cap_syms.specs.IsResolved.{IsResolved}
use Rattle.cap_code.specs.Values.{Scene}

-- a field that is changed here has 1, 2, 4 or 8 bytes
abbrev pub is_width : ℕ → Bool
is_width n = n == 1 || n == 2 || n == 4 || n == 8

abbrev pub IsWidth : ℕ → Type 0
IsWidth n = IsTrue (is_width n)

-- the relocation of a step and its piece are there, and the field lies inside the bytes of the piece
pub record IsStep (rels : List RelObject) (pieces : List Piece) (s : Step) : Type 0 where
  pub file : s.file < length rels
  pub index : s.index < length (file_of rels s.file).relocs
  pub piece : s.piece < length pieces
  pub changes : is_passed_over (reloc_of rels s).kind ≡ false
  pub behind : (piece_of pieces s.piece).start ≤ (reloc_of rels s).offset
  pub inside : offset_in_piece rels pieces s + width_of (reloc_of rels s).kind ≤ body_length (piece_of pieces s.piece)

abbrev pub IsStepIn : Scene → Step → Type 0
IsStepIn scene s = IsStep scene.named.rels scene.laid.pieces.all s

-- the layout is of the inputs, and each step of the plan is there
pub record IsScene (scene : Scene) : Type 0 where
  pub same : scene.laid.rels ≡ scene.named.rels
  pub resolved : IsResolved scene.named.rels scene.named.table
  pub steps : All (IsStepIn scene) scene.lists.plan.steps

-- the symbol of a target is one of the inputs
pub record IsTargetIn (scene : Scene) (t : Target) : Type 0 where
  pub file : t.file < length scene.laid.rels
  pub symbol : t.symbol < length (file_of scene.laid.rels t.file).symbols
