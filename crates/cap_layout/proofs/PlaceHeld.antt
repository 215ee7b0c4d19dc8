-- A layout that was placed is one.
use Rattle.std.proofs.Common.{◌≡◌, ℕ, ◌^◌, ◌≤◌, List, sym, ap, ◌∙◌, subst}
use Rattle.std.specs.Prelude.{All}
use Rattle.cap_elf.specs.RelObject.{RelObject}
use Rattle.cap_layout.specs.declared.common_map.CommonMap.{CommonMap}
use Rattle.cap_layout.specs.declared.piece.Piece.{Piece}
use Rattle.cap_layout.specs.declared.parts.Parts.{Parts}
use Rattle.cap_layout.specs.declared.parts.Sizes.{Sizes}
use Rattle.cap_layout.specs.CommonMap.{common_in}
use Rattle.cap_layout.specs.Held.{IsHeld}
use Rattle.cap_layout.specs.IsPiece.{IsPiece, IsPieceOf, IsLaid}
use Rattle.cap_layout.specs.Laid.{laid_as}
use Rattle.cap_layout.specs.Parts.{parts_of, addresses_of}
use Rattle.cap_layout.specs.Pieces.{PieceList, common_index}
use Rattle.cap_layout.specs.Places.{InClassOrder}
use Rattle.cap_layout.specs.Points.{Laid}
use Rattle.cap_layout.specs.Running.{Placed, AreLow}
use Rattle.cap_layout.specs.Segments.{all_places}
use Rattle.cap_layout.specs.Exact.{IsExactlyLaid}
use Rattle.cap_layout.proofs.PlaceExact.{exactly_laid}
use Rattle.cap_layout.proofs.PlaceOrder.{is_laid}

module _ (rels : List RelObject) (pieces : PieceList) (n : Sizes) (sound : All IsPiece pieces.all) (of_inputs : All (IsPieceOf rels) pieces.all) (order : InClassOrder pieces.all) (all : List Piece) (same : all ≡ pieces.all) (placed : Placed) (parts : Parts) (places : (placed, parts) ≡ all_places all n) (addresses : List ℕ) (same_addresses : addresses ≡ placed.addresses) where
  abbrev made : Laid
  made = record { rels = rels; pieces = pieces; addresses = addresses; parts = parts }

  -- the layout is that of the definition
  pub is_laid_as : made ≡ laid_as rels pieces n
  is_laid_as =
      let there : (placed, parts) ≡ all_places pieces.all n = places ∙ ap (λ ps. all_places ps n) same in
      let first : addresses ≡ addresses_of pieces.all n = same_addresses ∙ ap (λ (v : Placed × Parts). v.0.addresses) there in
      let second : parts ≡ parts_of pieces.all n = ap (λ (v : Placed × Parts). v.1) there in
      ap (λ (as' : List ℕ). let l : Laid = record { rels = rels; pieces = pieces; addresses = as'; parts = parts } in l) first
      ∙ ap (λ (p : Parts). let l : Laid = record { rels = rels; pieces = pieces; addresses = addresses_of pieces.all n; parts = p } in l) second

  pub is_held : (commons : CommonMap) → AreLow addresses → placed.end ≤ 2 ^ 26 → ((file symbol : ℕ) → common_in commons file symbol ≡ common_index pieces.all file symbol) → IsHeld made commons
  is_held commons all_low end_low agree =
      let end_is : placed.end ≡ (parts_of pieces.all n).mem_end = ap (λ (v : Placed × Parts). v.0.end) (places ∙ ap (λ ps. all_places ps n) same) in
      record {
        is_laid = subst (λ l. IsLaid l) (sym is_laid_as) (is_laid rels pieces n sound order (subst (λ e. e ≤ 2 ^ 26) end_is end_low));
        exact = subst (λ l. IsExactlyLaid l) (sym is_laid_as) (exactly_laid rels pieces n sound order);
        sound = sound;
        of_inputs = of_inputs;
        low = all_low;
        agree = agree;
      }
