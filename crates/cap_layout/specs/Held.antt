-- What a layout keeps beside its value.
use Rattle.std.specs.Prelude.{◌≡◌, ℕ, All}
use Rattle.cap_layout.specs.declared.common_map.CommonMap.{CommonMap}
use Rattle.cap_layout.specs.CommonMap.{common_in}
use Rattle.cap_layout.specs.Exact.{IsExactlyLaid}
use Rattle.cap_layout.specs.IsPiece.{IsPiece, IsPieceOf, IsLaid}
use Rattle.cap_layout.specs.Pieces.{common_index}
use Rattle.cap_layout.specs.Points.{Laid}
use Rattle.cap_layout.specs.Running.{AreLow}

-- the layout is one and exact, its pieces are sound and of its inputs, its addresses are low, and the map knows its common symbols
pub record IsHeld (laid : Laid) (commons : CommonMap) : Type 0 where
  pub is_laid : IsLaid laid
  pub exact : IsExactlyLaid laid
  pub sound : All IsPiece laid.pieces.all
  pub of_inputs : All (IsPieceOf laid.rels) laid.pieces.all
  pub low : AreLow laid.addresses
  pub agree : (file symbol : ℕ) → common_in commons file symbol ≡ common_index laid.pieces.all file symbol
