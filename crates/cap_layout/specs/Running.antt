-- Laying out as a walk along the file: what was placed so far, and where that ends.
use Rattle.std.specs.Prelude.{ℕ, ◌^◌, ◌≤◌, All, if◌then◌else◌, List, [], ◌∷◌, ◌++◌, Result, Ok}
use Rattle.cap_base.specs.Steps.{◌>>=◌, ◌>>◌, steps}
use Rattle.cap_base.specs.declared.refusal.Refusal.{Refusal}
use Rattle.cap_elf.specs.declared.records.Class.{Class}
use Rattle.cap_elf.specs.Classes.{same_class}
use Rattle.cap_layout.specs.declared.piece.Piece.{Piece}
use Rattle.cap_layout.specs.Laid.{ends_low}
use Rattle.cap_layout.specs.Places.{address_after, end_after}

-- the addresses of the pieces that were placed so far, and the padded end of the last
pub record Placed : Type 0 where
  pub addresses : List ℕ
  pub end : ℕ

-- none is above the limit
abbrev pub AreLow : List ℕ → Type 0
AreLow xs = All (λ a. a ≤ 2 ^ 26) xs

-- the next padded end, where it is not too far
unfoldable pub reached : Placed → ℕ → Result Placed Refusal
reached at end = ends_low end >> Ok (record { addresses = at.addresses; end = end })

-- the next piece
unfoldable pub with_piece : Placed → Piece → Result Placed Refusal
with_piece at p = do
  b ← reached at (end_after at.end p)
  Ok (record { addresses = b.addresses ++ address_after at.end p ∷ []; end = b.end })

-- the next piece, if it is of the class
abbrev pub with_one : Class → Placed → Piece → Result Placed Refusal
with_one class at p = if same_class p.class class then with_piece at p else Ok at

-- the pieces of a class
unfoldable pub with_class : Class → List Piece → Placed → Result Placed Refusal
with_class class pieces at = steps (with_one class) at pieces
