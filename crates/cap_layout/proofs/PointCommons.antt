-- A map of common symbols, filled from the last piece to the first.
use Rattle.std.proofs.Common.{◌≡◌, ℕ, ◌+◌, ◌<◌, ◌≤◌, ◌&&◌, cond, List, length, get_or, drop, Option, Some, None, refl, sym, ap, ◌∙◌, arith}
use Rattle.std.specs.Prelude.{◌==◌}
use Rattle.std.specs.List.{position_from}
use Rattle.std.specs.declared.cmp.Ordering.{Ordering}
use Rattle.std.specs.declared.cmp.Ordering.TheVariants.{Less, Equal, Greater}
use Rattle.std.specs.Ordering.{nat_cmp, ordering_then, is_eq}
use Rattle.std.proofs.lemmas.Iterator.Adapters.{position_from-zero}
use Rattle.std.proofs.lemmas.List.{drop_more, drop_all}
use Rattle.cap_layout.specs.declared.piece.Piece.{Piece}
use Rattle.cap_layout.specs.Pieces.{is_common_of, common_index}
use Rattle.cap_layout.specs.CommonMap.{pair_cmp}

same_number : (a b : ℕ) → is_eq (nat_cmp a b) ≡ (a == b)
same_number a b = grind arith

both : (o p : Ordering) → is_eq (ordering_then o p) ≡ (is_eq o && is_eq p)
both Less p = refl
both Equal p = refl
both Greater p = refl

-- two keys tie where both parts are equal
pub same_key : (x y : ℕ × ℕ) → is_eq (pair_cmp x y) ≡ ((x.0 == y.0) && (x.1 == y.1))
same_key x y =
    both (nat_cmp x.0 y.0) (nat_cmp x.1 y.1)
    ∙ ap (λ b. b && is_eq (nat_cmp x.1 y.1)) (same_number x.0 y.0)
    ∙ ap (λ b. (x.0 == y.0) && b) (same_number x.1 y.1)

-- the first common piece from a place on
pub common_from : List Piece → ℕ → ℕ → ℕ → Option ℕ
common_from pieces i file symbol = position_from (is_common_of file symbol) i (drop i pieces)

-- past all pieces there is none
pub common_none : (pieces : List Piece) (i file symbol : ℕ) → length pieces ≤ i → common_from pieces i file symbol ≡ None
unfolding common_from
common_none pieces i file symbol le = ap (position_from (is_common_of file symbol) i) (drop_all i pieces le)

-- one piece before
pub common_step : (pieces : List Piece) (i file symbol : ℕ) (d : Piece) → i < length pieces → common_from pieces i file symbol ≡ cond (is_common_of file symbol (get_or pieces i d)) (Some i) (common_from pieces (i + 1) file symbol)
unfolding common_from
common_step pieces i file symbol d lt = ap (position_from (is_common_of file symbol) i) (drop_more pieces i d lt)

-- from the first on
pub common_all : (pieces : List Piece) (file symbol : ℕ) → common_from pieces 0 file symbol ≡ common_index pieces file symbol
unfolding common_from
common_all pieces file symbol = sym (position_from-zero (is_common_of file symbol) pieces)
