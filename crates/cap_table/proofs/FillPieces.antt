-- The piece of an offset.
use Rattle.std.proofs.Common.{◌≡◌, ℕ, ◌+◌, ◌^◌, ◌<◌, ◌≤◌, Bool, true, false, cond, List, [], ◌∷◌, length, get_or, Option, Some, None, refl, sym, ap, ◌∙◌, suc, subst, arith, ⊎_elim}
use Rattle.std.proofs.lemmas.Int.{ints}
use Rattle.std.proofs.lemmas.Bool.{cases_lt, and_parts}
use Rattle.cap_elf.proofs.Passing.{choice_passed}
use Rattle.std.specs.Prelude.{All, nat_le, ◌&&◌, ℤ, pos, negsuc, ◌+ℤ◌, nat_abs}
use Rattle.std.specs.Option.{option_or, option_map}
use Rattle.std.proofs.lemmas.List.Elements.{All-head, All-tail}
use Rattle.cap_layout.specs.declared.piece.Piece.{Piece}
use Rattle.cap_layout.specs.IsPiece.{IsPiece}
use Rattle.std.specs.Int.{FitsUnsigned, is_negative, w64}
use Rattle.std.specs.Option.{option_map_or}
use Rattle.cap_layout.specs.Points.{Laid, offset_of}
use Rattle.cap_table.specs.Lists.{loose_described, nothing_described, piece_described}
use Rattle.cap_layout.specs.Pieces.{last_where, piece_at, holds_offset, is_of_section}

pub found_later : {X : Type 0} (p : X → Bool) (x : X) (xs : List X) (o : Option ℕ) (i : ℕ) → o ≡ last_where p xs → option_or (option_map (λ j. j + 1) o) (cond (p x) (Some 0) None) ≡ Some i → ((j : ℕ) → last_where p xs ≡ Some j → j < length xs) → i < length (x ∷ xs)
found_later p x xs (Some j) i e h ih = let below : j < length xs = ih j (sym e) in let is : i ≡ j + 1 = cc in omega arith
found_later p x xs None i e h ih = go (p x) h
  where
    go : (b : Bool) → cond b (Some 0) None ≡ Some i → i < length (x ∷ xs)
    go true q = let is : i ≡ 0 = cc in omega arith
    go false q = absurd (cc)

-- the last that passes is one of the list
pub found_in : {X : Type 0} (p : X → Bool) (xs : List X) (i : ℕ) → last_where p xs ≡ Some i → i < length xs
found_in p [] i h = absurd (cc)
found_in p (x ∷ xs) i h = found_later p x xs (last_where p xs) i refl h (λ j e. found_in p xs j e)

pub found_below : (pieces : List Piece) (file section offset i : ℕ) → piece_at pieces file section offset ≡ Some i → i < length pieces
found_below pieces file section offset i h = found_in (holds_offset file section offset) pieces i h

pub passes_later : {X : Type 0} (p : X → Bool) (x : X) (xs : List X) (d : X) (o : Option ℕ) (i : ℕ) → o ≡ last_where p xs → option_or (option_map (λ j. j + 1) o) (cond (p x) (Some 0) None) ≡ Some i → ((j : ℕ) → last_where p xs ≡ Some j → p (get_or xs j d) ≡ true) → p (get_or (x ∷ xs) i d) ≡ true
passes_later p x xs d (Some j) i e h ih =
    let next : j + 1 ≡ i = cc in
    let is : suc j ≡ i = omega (arith, next) in
    subst (λ (k : ℕ). p (get_or (x ∷ xs) k d) ≡ true) is (ih j (sym e))
passes_later p x xs d None i e h ih =
    choice_passed (p x) (Some 0) None (Some i) h
    (λ here same. let is : 0 ≡ i = cc in subst (λ (k : ℕ). p (get_or (x ∷ xs) k d) ≡ true) is here)
    (λ _ none. absurd (cc))

-- and it passes
pub passes_at : {X : Type 0} (p : X → Bool) (xs : List X) (d : X) (i : ℕ) → last_where p xs ≡ Some i → p (get_or xs i d) ≡ true
passes_at p [] d i h = absurd (cc)
passes_at p (x ∷ xs) d i h = passes_later p x xs d (last_where p xs) i refl h (λ j e. passes_at p xs d j e)

pub at_most : (a b : ℕ) → nat_le a b ≡ true → a ≤ b
at_most a b h = grind arith

-- the piece of an offset begins at the offset or below
pub found_from : (pieces : List Piece) (file section offset i : ℕ) (d : Piece) → piece_at pieces file section offset ≡ Some i → (get_or pieces i d).start ≤ offset
found_from pieces file section offset i d h =
    let p = get_or pieces i d in
    let held = and_parts (is_of_section file section p && nat_le p.start offset) (nat_le offset (p.start + p.size)) (passes_at (holds_offset file section offset) pieces d i h) in
    at_most p.start offset (and_parts (is_of_section file section p) (nat_le p.start offset) held.0).1

pub none_passes : {X : Type 0} (p : X → Bool) (xs : List X) → All (λ x. p x ≡ false) xs → last_where p xs ≡ None
none_passes p [] h = refl
none_passes p (x ∷ xs) h =
    ap (λ o. option_or (option_map (λ j. j + 1) o) (cond (p x) (Some 0) None)) (none_passes p xs (All-tail (λ y. p y ≡ false) x xs h))
    ∙ ap (λ b. cond b (Some 0) None) (All-head (λ y. p y ≡ false) x xs h)

-- no piece reaches so far
pub none_of : (a b : Bool) → b ≡ false → (a && b) ≡ false
none_of true b h = h
none_of false b h = refl

pub far_off : (file section offset : ℕ) (p : Piece) → IsPiece p → 2 ^ 62 < offset → holds_offset file section offset p ≡ false
far_off file section offset p sound far =
    let high : p.start + p.size < offset = omega (arith, sound.end_high) in
    let off : nat_le offset (p.start + p.size) ≡ false = grind arith in
    none_of (is_of_section file section p && nat_le p.start offset) (nat_le offset (p.start + p.size)) off

pub none_far : (file section offset : ℕ) (pieces : List Piece) → All IsPiece pieces → 2 ^ 62 < offset → piece_at pieces file section offset ≡ None
none_far file section offset [] all far = refl
none_far file section offset (p ∷ ps) all far =
    ap (λ o. option_or (option_map (λ j. j + 1) o) (cond (holds_offset file section offset p) (Some 0) None)) (none_far file section offset ps (All-tail IsPiece p ps all) far)
    ∙ ap (λ b. cond b (Some 0) None) (far_off file section offset p (All-head IsPiece p ps all) far)

-- a value and an addend that don't fit name no piece
pub beyond_at : (laid : Laid) (file section : ℕ) (z : ℤ) → All IsPiece laid.pieces.all → ¬ (FitsUnsigned w64 z) → nothing_described ≡ option_map_or (loose_described laid file section) (cond (is_negative z) None (Some (nat_abs z))) nothing_described
beyond_at laid file section (pos n) all outside =
    let high : 2 ^ 64 ≤ n = ⊎_elim (λ (h : n < 2 ^ 64). absurd (outside (omega (arith, ints), omega (arith, ints)))) (λ (h : 2 ^ 64 ≤ n). h) (cases_lt n (2 ^ 64)) in
    let none : piece_at laid.pieces.all file section n ≡ None = none_far file section n laid.pieces.all all (omega arith) in
    let up : is_negative (pos n) ≡ false = grind arith in
    sym (ap (λ b. option_map_or (loose_described laid file section) (cond b None (Some n)) nothing_described) up ∙ ap (λ o. option_map_or (piece_described laid n) o nothing_described) none)
beyond_at laid file section (negsuc n) all outside = refl

pub beyond : (laid : Laid) (file section value : ℕ) (addend : ℤ) → All IsPiece laid.pieces.all → ¬ (FitsUnsigned w64 (pos value +ℤ addend)) → nothing_described ≡ option_map_or (loose_described laid file section) (offset_of value addend) nothing_described
beyond laid file section value addend all outside = beyond_at laid file section (pos value +ℤ addend) all outside
