-- The largest alignment, piece by piece.
use Rattle.std.proofs.Common.{◌≡◌, ℕ, ◌+◌, ◌<◌, ◌≤◌, List, [], ◌∷◌, ◌++◌, length, get_or, take, refl, sym, ap, ◌∙◌}
use Rattle.std.specs.Prelude.{fold, map, max}
use Rattle.std.proofs.lemmas.List.{take_more, take_all}
use Rattle.cap_layout.specs.declared.piece.Piece.{Piece}
use Rattle.cap_layout.specs.Parts.{whole_alignment}
use Rattle.cap_layout.specs.Segments.{largest_of}
use Rattle.cap_conc.specs.Computed.{representable_alignment}

pub fold_push : (m : ℕ) (xs : List ℕ) (x : ℕ) → fold max m (xs ++ x ∷ []) ≡ max (fold max m xs) x
fold_push m [] x = refl
fold_push m (y ∷ ys) x = fold_push (max m y) ys x

map_push : (xs : List Piece) (x : Piece) → map (λ p. p.align) (xs ++ x ∷ []) ≡ map (λ p. p.align) xs ++ x.align ∷ []
map_push [] x = refl
map_push (y ∷ ys) x = ap (λ rest. y.align ∷ rest) (map_push ys x)

pub largest_none : largest_of [] ≡ 4096
unfolding largest_of
largest_none = refl

-- one more piece
pub largest_more : (pieces : List Piece) (i : ℕ) (d : Piece) → i < length pieces → largest_of (take (i + 1) pieces) ≡ max (largest_of (take i pieces)) (get_or pieces i d).align
unfolding largest_of
largest_more pieces i d lt =
    ap largest_of (take_more pieces i d lt)
    ∙ ap (fold max 4096) (map_push (take i pieces) (get_or pieces i d))
    ∙ fold_push 4096 (map (λ p. p.align) (take i pieces)) (get_or pieces i d).align

-- and the end
pub largest_whole : (pieces : List Piece) (end : ℕ) → max (largest_of pieces) (representable_alignment end) ≡ whole_alignment pieces end
unfolding largest_of
largest_whole pieces end = sym (fold_push 4096 (map (λ p. p.align) pieces) (representable_alignment end))

-- no piece is left
pub largest_done : (pieces : List Piece) (i high : ℕ) → length pieces ≤ i → high ≡ largest_of (take i pieces) → high ≡ largest_of pieces
largest_done pieces i high le so_far = so_far ∙ ap largest_of (take_all i pieces le)
